-- Laws of Select's core; each function's own proof stands in a folder of its name.
pub mod MeantLaws
pub mod TestLaws
pub mod TipLaws
pub mod StopLaws
pub mod SwitchLaws
pub mod ResolveLaws
pub mod SettleLaws
pub mod SelectLaws
