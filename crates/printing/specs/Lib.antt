-- What the contract of `printing` cites: the program's answer and what it prints, in `Print`.
pub mod Print
pub mod Private
