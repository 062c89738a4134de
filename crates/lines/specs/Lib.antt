-- What the contracts of `lines` cite: the lines that the program prints, in `Line`.
pub mod Line
pub mod Private
