-- Laws of the monthly ledger and of its floats, a file a subject.
pub mod Entering
pub mod Exact
pub mod Promises
pub mod Tests
pub mod Those
