-- Words that lead to states, counted by weights; what the parts of a count require and leave.
pub mod Weights
pub mod WeightLaws
pub mod Rounds
