-- `ContentLaws` reads entries and settles the rules list by list. `Only` says that no second answer
-- satisfies a public contract.
pub mod ContentLaws
pub mod Only
