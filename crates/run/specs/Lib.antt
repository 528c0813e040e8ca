-- What the walk's contracts cite.
pub mod Reading
pub mod Walk
pub mod Cards
pub mod Pieces
