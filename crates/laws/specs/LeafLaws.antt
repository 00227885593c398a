-- The laws of leaves, for those who build on them; the files beside this one have the proofs.
pub use Rattle.laws.specs.LeafVersions.{GoodLeaves, fresh_leaves_lem, version_live, version_old, live_version, meeting_covers, meeting_old}
pub use Rattle.laws.specs.LeafCuts.{standard_cut, taken_some, taken_most}
pub use Rattle.laws.specs.LeafSwaps.{Kept}
pub use Rattle.laws.specs.SettleLaws.{InLeaf, records_in_leaf, settle_good, settle_keeps}
pub use Rattle.laws.specs.LeafFills.{Filled, fresh_filled, settle_filled, leaf_count}
