-- Laws that the proofs of the readers cite, and those of code above them.
pub mod ReadLaws
