-- Laws that the proofs cite.
pub mod SymbolLaws
pub mod CheckLaws
