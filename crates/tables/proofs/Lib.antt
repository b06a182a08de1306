pub mod Staged
pub mod Owning
pub mod Refused
pub mod Named
pub mod Opened
pub mod Meaning
pub mod Complete
