-- A book compiled: its lines in order, its refusals, what it allows, its stages and their peak, and that the kept machine is right.
pub mod Allows
pub mod Book
pub mod Rest
pub mod Outcome
pub mod Refusals
pub mod Reading
pub mod Lent
pub mod Table
pub mod BookLaws
pub mod Bounds
pub mod BookStages
pub mod Peak
