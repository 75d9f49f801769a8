-- Laws of opening's promises.
pub mod Promises
