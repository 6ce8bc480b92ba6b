-- The places to be worked out by a sync: what stands for them in the lent memory, and what its steps promise.
pub mod Pending
