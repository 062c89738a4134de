-- `Kept` says what a reader keeps of a book, in terms of the book's check and of the search by tag.
-- `Only` says that no second answer satisfies a public contract.
pub mod Kept
pub mod Only
