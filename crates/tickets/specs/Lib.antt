-- What the contracts of `tickets` cite: `Ticket` and `Listing` follow docs/SCOPE.md. `PairWords`
-- says how pairs lie in words, and `Leaders` how a leader's pairs lie to a ticket's place.
pub mod Leaders
pub mod Listing
pub mod PairWords
pub mod Private
pub mod Ticket
