-- What the contract of `ranges` cites. `Demanded` has what only the demands cite.
pub mod Demanded
pub mod Private
pub mod Range
