-- The entries of a plan: what one means, and what the steps that hand them back promise.
pub mod Entries
pub mod Handing
