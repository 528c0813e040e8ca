-- How far a change is, over any states and letters, and the sweeps that find it.
pub mod Distance
pub mod Changes
