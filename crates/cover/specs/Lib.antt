-- What a cover means, and when it can be had.
pub mod Kinds
pub mod Cubes
pub mod Tables
pub mod Covers
pub mod Reasons
pub mod Theorems
pub mod Figures
