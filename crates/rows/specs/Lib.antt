-- The row of a place: what its words read as, and what the functions that read and write it promise.
pub mod Rows
pub mod Written
