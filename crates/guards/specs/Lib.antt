pub mod Judging
pub mod Promises
pub mod SearchLaws
pub mod PutLaws
pub mod LengthLaws
pub mod ScanLaws
pub mod OverlapLaws
pub mod JudgeLaws
