-- What the contract of `repairs` cites.
pub mod Part
