-- What the calls on the holdings promise.
pub mod Asked
