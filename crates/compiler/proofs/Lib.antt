pub mod Table
pub mod BookLaws
pub mod Bounds
pub mod Peak
