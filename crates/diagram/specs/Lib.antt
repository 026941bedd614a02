-- What a decision diagram says of a row, and when its table is one: for every contract of this crate.
pub mod Walk
pub mod Rules
pub mod Meaning
pub mod Counting
pub mod Spots
pub mod Figures
pub mod Reasons
pub mod Same
pub mod Theorems
