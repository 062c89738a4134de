-- What the contracts of `marks` cite. `Mark` has the scope's marks, `Table` a document's table,
-- `Back` the way from a table back to its marks, and `Outcome` the answers of the three calls.
pub mod Back
pub mod Mark
pub mod Outcome
pub mod Private
pub mod Table
