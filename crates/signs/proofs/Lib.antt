-- What the proofs of several functions use, here and in the crates above.
mod KindLaws
pub mod StepLaws
