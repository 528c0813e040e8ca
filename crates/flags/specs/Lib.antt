-- Rows of flags: where their members lead, the members listed, and rows closed under one transition per state.
pub mod Flags
pub mod Members
pub mod Closure
