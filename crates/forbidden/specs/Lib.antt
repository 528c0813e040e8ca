-- What the search for the shortest factor inside no allowed plan promises.
pub mod Reading
pub mod Pass
