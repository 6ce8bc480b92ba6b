-- What the crate's promises are stated in: document 01's "Amounts" as definitions, and amounts of two words as such values.
pub mod Choose
pub mod Amounts
pub mod Value
