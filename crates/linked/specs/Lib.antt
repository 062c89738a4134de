-- What the contracts of `linked` cite: `Check` has the check of links, and `Page` the page of a
-- call that is lent them. `Following` follows one listing through calls with links and without, for
-- the demands.
pub mod Check
pub mod Following
pub mod Page
pub mod Private
