-- What the loop over the lines promises.
pub mod Lines
