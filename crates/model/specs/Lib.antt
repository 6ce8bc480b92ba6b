-- Document 01 as definitions, in its order. What a reader must believe is in these files and in crates/amount/specs.
-- Tools: places and lists.
pub mod Places
pub mod Lists
-- "Taken from the repository": the block record. ("Amounts" stands in crates/amount/specs/Amounts.antt.)
pub mod Record
-- "Holding blocks"
pub mod Holding
-- "Standing in the tree": the rules, and how a sync works them out
pub mod Standing
pub mod Relink
-- "Comparing two chains"
pub mod Comparing
-- "The two plans"
pub mod Walks
pub mod Writes
pub mod Select
pub mod Adopt
-- "Numbers given back": calls, questions, plans
pub mod Questions
pub mod Numbers
pub mod Plans
-- Demand 3: what a history is, and its premise
pub mod Runs
