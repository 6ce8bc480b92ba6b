-- What the crate's promises are stated in, beside the model's own comparison (document 01, "Comparing two chains").
pub mod Parts
