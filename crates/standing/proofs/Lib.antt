-- Laws of this crate; each function's own proof stands in a folder of its name.
pub mod ParentLaws
pub mod WorkLaws
