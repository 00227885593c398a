pub mod Phantoms
pub mod LeafTests
pub mod LeafRows
pub mod LeafNumbers
pub mod LeafWrites
pub mod LeafCounts
pub mod MergeCounts
pub mod HidingLaws
