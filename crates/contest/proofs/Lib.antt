-- Laws that belong to no one function.
pub mod OrderLaws
pub mod TreeLaws
pub mod KeyLaws
pub mod ContestLaws
pub mod Uses
