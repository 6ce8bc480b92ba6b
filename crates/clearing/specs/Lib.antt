-- An empty memory, and what start and reload promise.
pub mod Blank
pub mod Calls
