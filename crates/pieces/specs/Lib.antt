-- What the theorems about lists cut into pieces speak of: `Pieces` defines the pairs and pages of
-- pieces, and `Checks` the checks of pieces.
pub mod Checks
pub mod Pieces
