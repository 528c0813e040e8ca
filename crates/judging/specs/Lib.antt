-- A plan under way, and the text of the plans that end in the bytes that come.
pub mod Plan
pub mod Lines
