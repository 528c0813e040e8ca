-- What the functions of this crate promise.
pub mod Names
pub mod Known
pub mod Answers
pub mod AnswerLaws
