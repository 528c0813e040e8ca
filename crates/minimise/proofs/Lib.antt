-- What the proofs of several functions use.
pub mod RowLaws
pub mod NumberLaws
