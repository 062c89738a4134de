-- Theorems for the reader: `Marked` says that rows stand where their marks do. `Contained` says
-- what is inside what. `Picked` says that the lists of any two tags are accepted together. `Exact`
-- says when a table is refused. `Returned` says that numbering and its way back return each other.
-- `Only` says that no second answer satisfies a public contract.
-- Laws for the code: `MarkLaws` is what each definition says of each kind of mark. `RowLaws` is how
-- rows lie in words. `Passing` is what the walk along the marks tells. `Keeping` is which closes
-- are kept on the way back. `Backward` is how the rows are written. `Inverse` says that a table
-- tells its marks. `ReadBack` says why the walk back along a table settles it. `Tagging` is how its
-- marks are written. `Picking` is what is picked row by row. `Outcomes` is what a call answers.
-- `Numbered` is how any two rows of a document lie.
pub mod Backward
pub mod Contained
pub mod Exact
pub mod Inverse
pub mod Keeping
pub mod MarkLaws
pub mod Marked
pub mod Numbered
pub mod Only
pub mod Outcomes
pub mod Passing
pub mod Picked
pub mod Picking
pub mod ReadBack
pub mod Returned
pub mod RowLaws
pub mod Tagging
