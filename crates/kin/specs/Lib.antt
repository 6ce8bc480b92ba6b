-- Linked children and leaves.
pub mod Kin
pub mod Relinked
