-- Laws of the plain reading's scans, a file a subject.
pub mod OnePass
