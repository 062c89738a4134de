-- What the contracts of `lists` and the demands cite. The scope's checks are in `Fault`, `Check`
-- and `Two`. `Step` gives the number and values of a step's two cases. `Refusal` says the same
-- table by the nodes that draw an answer.
pub mod Check
pub mod Fault
pub mod Private
pub mod Refusal
pub mod Step
pub mod Two
