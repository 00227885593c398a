pub mod Copies
pub mod RowLaws
pub mod CopyLaws
