-- Definitions that the board's contracts cite.
pub mod Refusals
pub mod Answers
