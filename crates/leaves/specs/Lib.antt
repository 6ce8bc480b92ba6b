-- What the steps of handing out leaves promise.
pub mod Queue
