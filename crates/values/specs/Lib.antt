-- What a linked value means.
pub mod Values
