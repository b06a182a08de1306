pub mod Fields
pub mod Borrowed
pub mod Opening
pub mod Foremost
pub mod Reading
pub mod Owning
pub mod Progressing
