-- What a plan writes, kept by place: what stands for it in the lent memory, and what its steps promise.
pub mod Coded
pub mod Steps
pub mod Meant
pub mod Planned
pub mod Decides
