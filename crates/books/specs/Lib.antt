-- What the contracts of `books` cite, and in `Refusal` what a faulty list in a book is.
pub mod Book
pub mod Find
pub mod Refusal
