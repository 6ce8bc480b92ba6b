-- The laws of the crate: of rows of digits over any base, and of hashes.
pub mod DigitLaws
pub mod HashLaws
pub mod Order
