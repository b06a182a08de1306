pub mod Held
pub mod Apart
pub mod Adding
