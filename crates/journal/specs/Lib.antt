-- The journal in the lent memory (document 01, "Holding blocks"): how it is read off the words, what a touch leaves, and what changes answer.
pub mod Journal
pub mod Touches
pub mod Steps
pub mod Changes
