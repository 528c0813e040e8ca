-- What the whole way promises: demand 3 for the arguments of one call.
pub mod Delivers
