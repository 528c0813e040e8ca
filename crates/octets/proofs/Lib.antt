-- Laws that callers cite.
pub mod PlaceLaws
