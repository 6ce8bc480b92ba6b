-- What the steps of Select's core make of the codes of places, and what its functions promise.
pub mod Selected
