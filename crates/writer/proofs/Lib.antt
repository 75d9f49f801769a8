-- What the writer promises beside its equations.
pub mod Promises
