-- Laws of what the private functions of `marks` say of their results.
pub mod Marks
