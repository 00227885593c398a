pub mod Workers
pub mod WordLaws
