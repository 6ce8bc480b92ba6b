-- What the bytes and words that cross to a host mean.
pub mod Compared
pub mod Lent
pub mod Planning
pub mod Told
pub mod ToldTree
