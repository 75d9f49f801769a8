-- The plain reading as its scans make it.
pub mod Scans
