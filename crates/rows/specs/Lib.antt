-- Rows and how many of them there are of a kind, for every count in this repository.
pub mod Rows
pub mod Levels
pub mod Products
pub mod SymmetricApproximation
pub mod Theorems
