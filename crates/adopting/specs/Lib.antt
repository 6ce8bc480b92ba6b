-- The leaves that Adopt goes through.
pub mod Searched
pub mod Searching
