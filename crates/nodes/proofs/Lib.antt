-- The laws of the definitions in specs/, each stated once: `NodeLaws` of how two nodes lie,
-- `WordLaws` of nodes in words. `Only` says that no second answer satisfies a public contract.
pub mod NodeLaws
pub mod Only
pub mod WordLaws
