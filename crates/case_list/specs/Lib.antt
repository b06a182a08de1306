pub mod Answers
pub mod Reading
pub mod Replaying
pub mod Subjects
pub mod Tallies
