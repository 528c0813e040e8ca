-- Laws that the proofs of several functions cite.
pub mod RowLaws
pub mod LoadLaws
