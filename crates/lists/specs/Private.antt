-- What only the contracts of private functions cite. No public contract and no theorem for the
-- reader cites a file of this folder.
pub mod Both
pub mod Merge
pub mod Open
pub mod Stepping
pub mod Walk
