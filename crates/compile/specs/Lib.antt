-- What the compiling program writes for a text.
pub mod Prints
