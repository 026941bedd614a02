-- What a design means, for every make of design and for whatever asks one.
pub mod Checks
pub mod Marks
pub mod Meaning
pub mod Pairs
pub mod Search
pub mod Theorems
