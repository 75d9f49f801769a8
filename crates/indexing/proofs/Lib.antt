-- Laws of what `indexing` writes, a file a subject.
pub mod Packed
pub mod Placing
pub mod Written
