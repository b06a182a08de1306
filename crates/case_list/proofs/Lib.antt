pub mod Elements
pub mod ItemReading
pub mod Lines
pub mod NumberReading
pub mod Tallying
