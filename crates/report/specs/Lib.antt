-- What the compiling program writes.
pub mod Shown
