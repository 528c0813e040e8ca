-- Laws that the proofs cite, here and in `forms`.
pub mod ContextLaws
