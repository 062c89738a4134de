-- `OutputLaws` says how an output is filled and what a call that writes answers. `VerdictLaws` says
-- which verdicts are refusals. `Only` says that no second answer satisfies a public contract.
pub mod Only
pub mod OutputLaws
pub mod RefusalLaws
pub mod VerdictLaws
