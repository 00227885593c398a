pub mod Performs
pub mod PerformLaws
pub mod Listings
