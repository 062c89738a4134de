-- `Shown` and `Version` are what the contracts of `belfrychest` cite.
pub mod Shown
pub mod Version
