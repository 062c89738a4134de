-- What the contract of `writing` cites is in `Wanted` and `WriteCall`, in the scope's words. `Back`
-- says what a book that was read gives for writing it again, for the demands.
pub mod Back
pub mod Wanted
pub mod WriteCall
