-- Laws; each function's own proof stands in a folder of its name.
pub mod ClimbLaws
pub mod FrameLaws
pub mod HasLaws
pub mod PassLaws
pub mod TurnedLaws
