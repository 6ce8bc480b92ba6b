-- Laws of the two plans as calls; each function's own proof stands in a folder of its name.
pub mod PutLaws
pub mod OutLaws
pub mod CallLaws
pub mod PlanOnce
