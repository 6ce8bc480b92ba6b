-- A list of entries as words, and what the two plans promise.
pub mod Lent
pub mod Plan
pub mod Opened
