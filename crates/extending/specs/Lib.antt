-- Adopt's pieces: what is gathered down a walk, and an extension scanned.
pub mod Orphans
pub mod Judged
pub mod Accepting
