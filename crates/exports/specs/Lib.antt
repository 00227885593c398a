pub mod Exporting
pub mod RowLaws
pub mod CopyLaws
pub mod FilePuts
pub mod StepLaws
pub mod FirstLaws
pub mod ReadBacks
