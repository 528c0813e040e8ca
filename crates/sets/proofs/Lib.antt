-- What the proofs of several functions use, here and above.
pub mod PairLaws
pub mod ConcatLaws
pub mod StarLaws
pub mod GainLaws
pub mod EraseLaws
pub mod FitLaws
