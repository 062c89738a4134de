-- What the contract of `pairs` cites is in `Page`, which follows docs/SCOPE.md. `Calls` follows one
-- listing through calls, for the demands.
pub mod Calls
pub mod Page
pub mod Private
