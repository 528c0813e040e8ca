-- How bytes are cut into plans, and what judging many of them answers.
pub mod Plans
pub mod Many
