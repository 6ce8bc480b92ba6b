-- What a lent memory stands for, when it is sound, and what the steps of a call promise.
pub mod View
pub mod Sound
pub mod Moves
pub mod Handing
pub mod TreeOnly
