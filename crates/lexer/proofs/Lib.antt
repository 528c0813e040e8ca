-- What the proofs of several functions use, here and in the crates above.
mod Table
pub mod TokenLaws
pub mod KindLaws
