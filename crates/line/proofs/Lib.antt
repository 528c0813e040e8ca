-- Laws that the proofs cite.
pub mod RunLaws
pub mod LineLaws
