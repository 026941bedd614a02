-- The laws of sums and counts over rows.
pub mod Sums
pub mod Counts
pub mod Shifts
pub mod Binomials
pub mod Levels
pub mod Digits
pub mod Products
pub mod Approximation
