-- What is gathered down a walk, an extension scanned, and the two sides.
pub mod Gathered
pub mod Scanned
pub mod Sides
