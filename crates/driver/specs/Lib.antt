-- What the entry promises.
pub mod Entry
