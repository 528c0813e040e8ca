-- The shortest factor of a plan that lies inside no allowed plan.
pub mod Factor
pub mod LongerLaws
pub mod Shortest
pub mod Examples
