-- What the private functions of `marks` say of their results, a file a subject.
pub mod Marks
pub mod Regular
