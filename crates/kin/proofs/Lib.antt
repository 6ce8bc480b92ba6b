-- Laws of linked children and leaves; each function's own proof stands in a folder of its name.
pub mod KinLaws
pub mod RelinkLaws
