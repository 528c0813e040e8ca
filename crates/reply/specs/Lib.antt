-- What the line of an answer is.
pub mod Text
