-- What the proofs of several functions use, here and above.
pub mod RowLaws
pub mod BitLaws
pub mod SumLaws
pub mod HashLaws
pub mod PairRowLaws
