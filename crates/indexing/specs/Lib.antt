-- What the functions of `indexing` write.
pub mod Keys
pub mod Packed
