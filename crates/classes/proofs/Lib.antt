-- What the proofs of several functions use.
pub mod PlaceLaws
pub mod RefineLaws
