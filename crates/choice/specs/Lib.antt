-- What the functions of this crate promise.
pub mod Reading
pub mod ReadingLaws
