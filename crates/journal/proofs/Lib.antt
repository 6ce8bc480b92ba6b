-- Laws: of tables and rings, of entries and their hashes, of the steps of a touch, of a touch, and of changes.
pub mod TabLaws
pub mod RingLaws
pub mod EntryLaws
pub mod StepLaws
pub mod TouchLaws
pub mod ListLaws
pub mod ChangesLaws
