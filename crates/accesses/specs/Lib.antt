pub mod Edits
pub mod Answers
pub mod ReadSteps
pub mod ScanCauses
pub mod ScanSteps
pub mod Scans
pub mod ScanLaws
