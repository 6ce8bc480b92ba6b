-- What the crate's promises are stated in: numbers as rows of digits, and hashes as numbers and as texts (document 01, "Taken from the repository").
pub mod Digits
pub mod Hashes
