-- Words of the contracts of private functions. No public contract and no theorem for the reader
-- cites a file of this folder.
pub mod Printed
