-- That the order tests over lists of edges decide rule 5, and the steps of the functions that make them, a file a subject.
pub mod Ends
pub mod FanLists
pub mod FanTables
pub mod Furthest
pub mod Margin
pub mod MarginSteps
pub mod NamesFault
pub mod Next
pub mod Rule5
pub mod Under
pub mod Walks
