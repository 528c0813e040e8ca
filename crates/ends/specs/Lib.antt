-- What the parts of the pass require and leave.
pub mod Ends
