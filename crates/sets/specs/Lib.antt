-- The sets of a stage as rows of bytes, an automaton of rows for each operation, and what making them asks.
pub mod Operations
pub mod Operands
pub mod Fits
