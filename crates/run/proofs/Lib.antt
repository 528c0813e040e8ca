-- Laws that the proofs of several functions cite, and those of code above the walk.
pub mod ColumnLaws
pub mod WalkLaws
pub mod PieceLaws
pub mod OwedLaws
