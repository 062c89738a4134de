-- Theorems for the reader: `Families` says what parent, first child and next lead to. `Only` says
-- that no second answer satisfies the contract.
-- Laws for the code: `FirstAndLast` finds the first and the last number that pass a test.
-- `Containing` is what an accepted list gives at any index. `Parents` says that the parent is the
-- last node that contains a node. `Climbing` is what the node before and the way up from it tell of
-- a node's kin. `OneMoreNode` is what one node more adds to the links. `LinkLaws` is how these lie
-- in words. `Following` is what is met along `next`. `Answering` tells the answers of the call
-- apart.
pub mod Answering
pub mod Climbing
pub mod Containing
pub mod Families
pub mod FirstAndLast
pub mod Following
pub mod LinkLaws
pub mod OneMoreNode
pub mod Only
pub mod Parents
