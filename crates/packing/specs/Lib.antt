-- A machine kept in a slot among others.
pub mod Keep
