-- Laws of the plain reading's promises, a file a subject.
pub mod Highest
pub mod Promises
