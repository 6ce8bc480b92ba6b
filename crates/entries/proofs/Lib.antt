-- Laws of the entries of a plan; each function's own proof stands in a folder of its name.
pub mod FinishLaws
pub mod TakeLaws
pub mod OrderLaws
pub mod HandLaws
