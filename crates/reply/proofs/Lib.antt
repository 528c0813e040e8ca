-- Laws that the proofs cite, here and above.
pub mod TextLaws
