-- What the table of kinds and the cursor promise.
pub mod Kinds
pub mod Token
