-- Definitions that the contracts of the card's sections cite.
pub mod Laid
pub mod Kept
pub mod Parts
pub mod StateMark
