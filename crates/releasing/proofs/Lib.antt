-- Laws and theorems of this crate; each function's own proof stands in a folder of its name.
pub mod VacateLaws
pub mod ReleaseLaws
