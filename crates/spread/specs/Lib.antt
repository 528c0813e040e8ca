pub mod Change
pub mod Gather
