-- Laws of sync; each function's own proof stands in a folder of its name.
pub mod SyncLaws
pub mod KeepLaws
pub mod Demand3
