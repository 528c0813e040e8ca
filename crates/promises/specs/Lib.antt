-- The customer's demands, joined from the laws of the other crates.
pub mod Accepted
pub mod Refusals
pub mod PlanCuts
pub mod Demands
pub mod Owed
pub mod Census
