-- The laws of the crate. `Promises` is what callers cite; `Limbs` and `Digits` are what the proofs of this crate's functions cite.
pub mod Limbs
pub mod Digits
pub mod Promises
pub mod EitherSide
