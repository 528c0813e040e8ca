-- Laws of the parts of the pass.
pub mod EndsLaws
