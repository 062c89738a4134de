-- Words of private functions of the crates above. No public contract and no theorem for the reader
-- cites a file of this folder.
pub mod Serve
