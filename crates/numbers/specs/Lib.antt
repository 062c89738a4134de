-- What the contracts of `numbers` cite.
pub mod Little
pub mod Part
