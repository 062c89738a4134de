-- What the contracts of `forest` cite. `Links` has the scope's links, and `Linked` the answer of
-- the call. `Follow` says what a reader of the links meets.
pub mod Follow
pub mod Linked
pub mod Links
pub mod Private
