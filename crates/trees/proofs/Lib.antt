-- Theorems for the reader: `Ordered` says how any two nodes of a numbered tree lie. `Accepted` says
-- that the tree's list is accepted, that inside is ancestor and directly inside is parent, and
-- which pairs are listed. `Made` shows that the example is such a tree.
pub mod Accepted
pub mod Made
pub mod Ordered
