-- What code reads of a card.
pub mod Counts
pub mod CardTable
