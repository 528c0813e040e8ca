-- Definitions that the contracts of test 25 cite.
pub mod LiveSweeps
