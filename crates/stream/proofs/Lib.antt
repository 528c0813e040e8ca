-- Laws that the proofs of several functions cite.
pub mod PutLaws
pub mod DigitLaws
pub mod ReadLaws
