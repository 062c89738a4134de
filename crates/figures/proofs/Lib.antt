-- The theorem about the scope's figures.
pub mod Table
