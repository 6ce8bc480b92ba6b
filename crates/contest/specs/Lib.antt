-- What the crate's promises are stated in: a tournament over places as functions, the orders and sets of the five contests, and their trees in the lent memory.
pub mod Tree
pub mod Keys
pub mod Contests
