-- Laws; each function's own proof stands in a folder of its name.
pub mod SideLaws
pub mod DecideLaws
