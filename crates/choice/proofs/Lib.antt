-- The laws of the crate: the parts of the comparison as its tests turn out, and steps that saturate.
pub mod ChoiceLaws
pub mod EpochLaws
