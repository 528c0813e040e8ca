-- Laws that the proofs of several functions cite, here and above.
pub mod ClassLaws
pub mod SplitLaws
pub mod KeyLaws
