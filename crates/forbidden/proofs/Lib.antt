-- Laws of the pass and of the entry.
pub mod DeadLaws
pub mod PlacesLaws
pub mod BestLaws
pub mod PassLaws
pub mod EntryLaws
