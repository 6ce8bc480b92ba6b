-- Laws: of lists, of keys, of chains, of indexes, of walks, and of loops over the slots with a key.
pub mod ListFacts
pub mod KeyLaws
pub mod Chains
pub mod IndexLaws
pub mod Walks
pub mod VisitLaws
