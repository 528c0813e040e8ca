-- The numbers that are handed over.
pub mod Handed
pub mod HandedLaws
