-- The book in the making behind each line, and what the reader says of a line.
pub mod Progress
