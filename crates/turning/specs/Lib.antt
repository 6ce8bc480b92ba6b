-- What passes and climbs make of the codes of places.
pub mod Turned
