-- Laws of the questions about the tree; each function's own proof stands in a folder of its name.
pub mod TreeAskLaws
pub mod BestLaws
