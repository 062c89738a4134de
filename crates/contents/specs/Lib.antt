-- What the contracts of `contents` cite: the scope's rules in `Contents`, and the step from list to
-- list in `Passing`.
pub mod Contents
pub mod Passing
pub mod Private
