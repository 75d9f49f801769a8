-- Document 02, P2, as definitions: what a reader must believe. One file a subject.
pub mod Readings
pub mod Tallies
pub mod Results
pub mod Months
pub mod Promises
pub mod Answers
pub mod WorkedMonths
pub mod Slips
