-- What the contract of `sheets` cites. `Demanded` has what only the demands cite.
pub mod Demanded
pub mod Hundredths
pub mod Private
pub mod Sheet
