pub mod Number
pub mod Minimised
pub mod MinimisedLaws
