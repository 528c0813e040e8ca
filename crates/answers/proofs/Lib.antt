-- Laws that the proofs of a stage cite, in the crates above.
pub mod StageLaws
