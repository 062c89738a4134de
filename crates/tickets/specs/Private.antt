-- Words of private functions of `pairs`. No public contract and no theorem for the reader cites a
-- file of this folder.
pub mod Group
