-- A line's program over the lent buffers, and what it makes.
pub mod ExecuteLaws
pub mod Steps
pub mod Run
pub mod Evaluated
