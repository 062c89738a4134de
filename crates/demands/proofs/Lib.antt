-- What the library promises, each clause as a theorem below a comment in words. `Demands` states
-- the three demands on listings, and `Outputs` demand 1 for the other calls that write. `Marks` and
-- `Books` state demand 2 for numbering and for books. `Pieces` is the rule for lists that are cut
-- into pieces. `Readings` states the demands on lab readings, `Sheets` those on zone sheets,
-- `Questions` those on several questions in one call, and `Linked` those on links that are lent.
-- `Sizes` is about trees numbered by order and size, and `Rules` about lists made for the stricter
-- rule of what is inside. `Limits` compares books under two limits of lists. `Promised` has what
-- else is promised.
pub mod Demands
pub mod Outputs
pub mod Marks
pub mod Books
pub mod Pieces
pub mod Readings
pub mod Sheets
pub mod Questions
pub mod Linked
pub mod Sizes
pub mod Rules
pub mod Limits
pub mod Promised
