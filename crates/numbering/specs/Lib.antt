-- Definitions that the numbering's contracts cite.
pub mod Arrival
pub mod Order
