-- How many plans of a length are allowed, unfinished and hopeless.
pub mod Listing
pub mod Plans
pub mod Census
pub mod CountLaws
pub mod EndLaws
pub mod Examples
