-- What the calls promise of a whole memory.
pub mod Calls
pub mod Lived
