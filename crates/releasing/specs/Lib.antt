-- A sync frees room at its end: what that leaves, at one place and at all.
pub mod Releases
pub mod Vacates
