-- What the entries for Rust and C hand back.
pub mod Compiles
pub mod Lines
