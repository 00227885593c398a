pub mod Works
pub mod WorkLaws
