-- A line's program on a stack of machines, code by code, and what each code asks for.
pub mod Execute
pub mod Codes
