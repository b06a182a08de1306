pub mod Spans
pub mod Rows
pub mod Readable
pub mod Opening
pub mod Staging
pub mod Borrowed
pub mod Owned
pub mod Growing
