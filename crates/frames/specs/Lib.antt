-- Document 02, P1, as definitions: what a reader must believe. One file a subject.
pub mod Digits
pub mod Lines
pub mod Pages
pub mod Texts
pub mod Answers
pub mod Placing
pub mod WorkedPages
