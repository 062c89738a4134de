-- What the contracts of `nodes` cite.
pub mod Node
pub mod Words
