-- What the contracts of `readings` cite, and `Sample`, what those of the calls on readings cite.
-- `Refusal` says what is faulty case by case.
pub mod Reading
pub mod Refusal
pub mod Sample
