-- What a tree numbered by order and size is, and the list that it is lent as. `Example` is one such
-- tree.
pub mod Example
pub mod Tree
