-- What the functions on one line promise.
pub mod Line
