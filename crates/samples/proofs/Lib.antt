-- Sums of outcomes, and counts over the rows that have been passed.
pub mod Passed
pub mod Folds
