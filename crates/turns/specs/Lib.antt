-- The rows and transitions of a stage while they are laid out, and all of them: what exploring asks and answers.
pub mod Partial
pub mod Exploring
pub mod ExploringLaws
