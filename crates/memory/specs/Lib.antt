-- The lent memory: words and what a store leaves of them, and where each word lies.
pub mod Words
pub mod Layout
