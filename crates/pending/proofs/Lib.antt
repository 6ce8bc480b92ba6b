-- Laws of the pending places; each function's own proof stands in a folder of its name.
pub mod PendLaws
pub mod NextLaws
pub mod TurnLaws
pub mod FollowLaws
pub mod ChangedLaws
