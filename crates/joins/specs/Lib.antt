-- What the contracts of `joins` cite.
pub mod Join
