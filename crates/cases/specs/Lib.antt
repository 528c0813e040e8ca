-- The starred cases of 01 and short texts beside them, from the definitions.
pub mod Case
pub mod Cases
