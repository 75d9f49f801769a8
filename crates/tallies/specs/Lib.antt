-- Samples as they are lent, as the definitions of document 02 speak of them.
pub mod Lent
