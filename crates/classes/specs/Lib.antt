pub mod Refine
