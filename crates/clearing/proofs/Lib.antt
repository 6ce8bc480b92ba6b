-- The laws of start and reload, and of what both do; each function's own proof stands in a folder of its name.
pub mod WipeLaws
pub mod StartLaws
pub mod ReloadLaws
