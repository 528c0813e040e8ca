-- Laws that the proofs cite.
pub mod VerdictLaws
pub mod DeliveryLaws
