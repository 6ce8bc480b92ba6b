-- Dense sets of places: as functions, in a memory, and what each function leaves.
pub mod Dense
pub mod Roster
pub mod Writes
