-- What the board is handed, and what the whole way answers.
pub mod Answers
pub mod Handing
