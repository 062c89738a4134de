-- `Words` and `Page` are what the contracts of `ticket_words` cite. `Following` is a listing that a
-- caller follows by the six words.
pub mod Following
pub mod Page
pub mod Words
