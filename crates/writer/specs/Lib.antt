-- Definitions that the card writer's contracts cite.
pub mod Written
