-- Laws of the descent of the quick search.
pub mod Steps
pub mod Descending
