-- What the functions on the value of one place promise.
pub mod Work
