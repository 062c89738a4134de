-- Theorems for the reader: `Listed` says which pairs are listed, that they ascend, and that none
-- comes twice. `Only` says that no second answer satisfies a public contract.
-- Laws for the code: `Search` is what a search through nodes has passed. `Places` says how a
-- leader's pairs lie to a place, and `Groups` what remains of a listing group by group.
pub mod Groups
pub mod Listed
pub mod Only
pub mod Places
pub mod Search
