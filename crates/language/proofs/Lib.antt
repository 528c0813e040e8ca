pub mod Restriction
pub mod Makes
pub mod Matches
pub mod RuleLaws
