-- What the contracts of whole inputs and of text in a buffer cite.
pub mod Text
pub mod TextLaws
pub mod Input
pub mod Failures
