-- What the program's functions ask and promise, and the laws that their proofs cite.
pub mod Ready
pub mod ReadyLaws
