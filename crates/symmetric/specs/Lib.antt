-- Symmetric functions, for whoever hands one out.
pub mod Vectors
pub mod Nearest
pub mod Closest
pub mod Figures
