-- What the contracts of `answers` cite, and what every call that writes answers.
pub mod Answer
pub mod Output
pub mod Refusal
pub mod Verdict
