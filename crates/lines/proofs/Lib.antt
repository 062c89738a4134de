-- A theorem for the reader: `Only` says that no second answer satisfies a public contract.
-- Laws for the code: `Putting` is what texts put one after the other make. `Digits` is what a
-- number's digits are and how many. `TwoDigits` is what a table of two digits has. `Blanks` is what
-- a word is without its blanks. `Fields` is how long the lines are. `PairLines` is which pairs they
-- are of.
pub mod Blanks
pub mod Digits
pub mod Fields
pub mod Only
pub mod PairLines
pub mod Putting
pub mod TwoDigits
