pub mod Counting
pub mod Escaping
pub mod Lines
pub mod Failing
