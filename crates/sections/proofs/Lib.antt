-- Laws that the proofs of several functions cite.
pub mod LaidLaws
pub mod RestrictLaws
pub mod MarkLaws
pub mod MoveLaws
