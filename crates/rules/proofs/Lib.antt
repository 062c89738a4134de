-- `Own` says that with the library's rule the checks, the listing and the links are the library's.
-- `Agreeing` says that two rules which agree on the nodes at hand give the same. `Kept` says what
-- stays the same from the stricter rule to the library's.
pub mod Agreeing
pub mod Own
pub mod Kept
