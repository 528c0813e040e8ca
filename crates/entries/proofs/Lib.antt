-- What the proofs of several functions use, here and above.
pub mod EntryLaws
