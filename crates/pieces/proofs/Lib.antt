-- Theorems for the reader: `Meeting` says that the pairs of the pieces are those of the wholes,
-- `Once` that none comes twice, and `InTurn` when they come in order. `Checking` says what checks
-- of pieces tell of the whole, and `Borders` how much of that the first and last nodes show.
-- `Apart` says which pieces need no call, and `Agreeing` when two lists cut into pieces agree.
-- `Pages` says what the pieces' pages tell of the whole's page, and `LastPages` whether it is the
-- last. `PagesInTurn` says how leading pieces that are asked in turn make it, and `MergedInTurn`
-- that both lists may be cut for that.
-- Laws for these: `Cutting` is what a cut does to nodes, and `Made` what pieces make together.
-- `Firsts` is what ascending lists have first, and `PageParts` why the pieces' listings are parts
-- of the whole's.
pub mod Agreeing
pub mod Apart
pub mod Borders
pub mod Checking
pub mod Cutting
pub mod Firsts
pub mod InTurn
pub mod LastPages
pub mod Made
pub mod Meeting
pub mod MergedInTurn
pub mod Once
pub mod PageParts
pub mod Pages
pub mod PagesInTurn
