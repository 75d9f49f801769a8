-- Laws of shifted margins and of looks, a file a subject.
pub mod Looks
pub mod Margins
