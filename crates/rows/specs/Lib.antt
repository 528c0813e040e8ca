-- Rows of bytes, the sum by which a row is found, and the chains in which it is looked for.
pub mod Rows
pub mod Sums
pub mod Chains
pub mod Found
