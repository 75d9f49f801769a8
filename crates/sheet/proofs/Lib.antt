-- Laws of the judgement's parts.
pub mod Scans
pub mod Unnamed
pub mod Whole
pub mod CircleRefused
