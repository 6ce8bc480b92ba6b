-- Laws and theorems of this crate; each function's own proof stands in a folder of its name.
pub mod StatusLaws
pub mod PlaceLaws
pub mod StepLaws
pub mod AdmitLaws
pub mod FillLaws
