-- The scope's figures that are proved about the definitions.
pub mod Figures
