-- Laws of Adopt's pieces; each function's own proof stands in a folder of its name.
pub mod OrphanLaws
pub mod AboveLaws
pub mod LevelLaws
pub mod PieceLaws
pub mod RivalLaws
pub mod ChangeLaws
pub mod ExtensionLaws
pub mod VerdictLaws
pub mod JudgeLaws
