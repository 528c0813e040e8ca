-- Definitions that the contracts of the search cite.
pub mod Levels
