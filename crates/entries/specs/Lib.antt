pub mod Entries
pub mod Classes
