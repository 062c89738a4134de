-- What docs/SCOPE.md says, with the rule of what is inside left open. `Rule` has the stricter rule,
-- `Checks` the answers, `Pairs` the listing and `Forest` the links.
pub mod Checks
pub mod Forest
pub mod Pairs
pub mod Rule
