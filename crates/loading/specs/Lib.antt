-- Definitions that the contracts of the tests cite.
pub mod Faults
pub mod Inside
pub mod Rows
