-- Laws and theorems of this crate; each function's own proof stands in a folder of its name.
pub mod ViewLaws
pub mod SoundLaws
pub mod FindLaws
pub mod ShowLaws
pub mod RowSteps
pub mod HeadSteps
pub mod TreeSteps
pub mod TouchSteps
