-- What the proofs of several functions use, and those of the functions of C.
pub mod ComparedLaws
pub mod ComparedOnce
pub mod OutcomeOnce
pub mod PlanningLaws
pub mod RecordLaws
pub mod ToldLaws
pub mod ToldOnce
pub mod ShownLaws
pub mod ToldTreeLaws
