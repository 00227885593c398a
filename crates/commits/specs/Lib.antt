pub mod Commits
pub mod Finishes
pub mod Locks
pub mod Searching
pub mod Validates
pub mod Answers
pub mod Verdicts
