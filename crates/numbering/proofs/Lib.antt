-- Laws that the proofs of several functions cite.
pub mod ArrivalLaws
pub mod NumberLaws
pub mod OrderLaws
