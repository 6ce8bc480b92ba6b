-- Laws; each function's own proof stands in a folder of its name.
pub mod CallLaws
pub mod PutLaws
pub mod StaleSteps
