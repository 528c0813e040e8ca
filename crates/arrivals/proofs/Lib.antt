-- Laws behind the proofs of a count.
pub mod RoundLaws
pub mod PowerLaws
