-- Chains of slots by a key: lists, chains, what an index is, and what each function leaves or finds.
pub mod Chain
pub mod Keys
pub mod Index
pub mod Seeks
pub mod Writes
pub mod Visits
