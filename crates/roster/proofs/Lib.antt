-- Laws: of dense sets as functions, of words, and of sets in a memory.
pub mod DenseLaws
pub mod Counting
pub mod RosterLaws
