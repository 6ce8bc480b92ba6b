-- Where a record goes, and what the inner functions of calls promise.
pub mod Seats
pub mod Calls
