-- What the contract of `questions` cites. `Demanded` and `Following` have what only the demands
-- cite, and `Following` follows one question through calls.
pub mod Ask
pub mod Demanded
pub mod Following
pub mod Question
