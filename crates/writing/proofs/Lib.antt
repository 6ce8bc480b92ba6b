-- Laws of what a plan writes, kept by place; each function's own proof stands in a folder of its name.
pub mod CodeLaws
pub mod FirstLaws
pub mod ForgetLaws
pub mod UserLaws
pub mod ScratchLaws
