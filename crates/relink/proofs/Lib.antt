-- Laws of what a sync keeps and of its turns; each function's own proof stands in a folder of its name.
pub mod TreedLaws
pub mod PutLaws
pub mod WorkLaws
pub mod TurnLaws
pub mod SettleLaws
pub mod WipeLaws
pub mod ResetLaws
pub mod GatherLaws
