-- The known figures.
pub mod Cases
pub mod Known
