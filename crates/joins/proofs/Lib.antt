-- Theorems for the reader: `Joined` says that of a checked book the words copied are the lists'.
-- `Only` says that no second answer satisfies a public contract.
-- Laws for the code: `Copying` says what copying two lists answers and leaves in the words.
pub mod Copying
pub mod Joined
pub mod Only
