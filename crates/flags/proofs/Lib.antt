-- What the proofs of several functions use, here and above.
pub mod FlagLaws
pub mod TableLaws
pub mod ClosureLaws
pub mod MemberLaws
