-- Lemmas on the definitions of specs/.
pub mod Pages
pub mod Digits
pub mod Searches
pub mod Pushes
pub mod Levels
pub mod Constant
pub mod Steps
pub mod Ends
pub mod Diagrams
pub mod Sizes
