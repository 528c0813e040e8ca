-- A table of moves as bytes, and the machine that it holds.
pub mod Holds
pub mod TableLaws
pub mod Marks
