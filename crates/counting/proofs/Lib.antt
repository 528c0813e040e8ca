-- Laws behind the proofs of counting.
pub mod EndingLaws
pub mod EntryLaws
