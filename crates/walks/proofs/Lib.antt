-- Laws of walks, of the fork and of a walk that is noted; each function's own proof stands in a folder of its name.
pub mod DownLaws
pub mod ForkLaws
pub mod LineLaws
pub mod OnLaws
