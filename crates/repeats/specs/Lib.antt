-- When a transition repeats an earlier one.
pub mod Twins
pub mod Repeats
pub mod Order
