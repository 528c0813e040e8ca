-- What the functions of this crate promise.
pub mod Buffer
pub mod BufferLaws
pub mod Spots
pub mod Steps
