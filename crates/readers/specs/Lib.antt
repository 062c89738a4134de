-- What the contracts of `readers` cite.
pub mod Reader
