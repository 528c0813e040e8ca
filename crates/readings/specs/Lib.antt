-- The flags of the rows of a stage.
pub mod Flagged
