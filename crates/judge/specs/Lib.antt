-- What the judging program's contracts cite.
pub mod Lines
