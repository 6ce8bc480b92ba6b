-- Laws of the leaves as they are handed out; each function's own proof stands in a folder of its name.
pub mod QueueLaws
pub mod OrderLaws
pub mod HandLaws
pub mod LeafLaws
pub mod CallLaws
