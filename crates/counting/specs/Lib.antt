-- What counting promises.
pub mod Refusals
pub mod Reading
pub mod Counting
