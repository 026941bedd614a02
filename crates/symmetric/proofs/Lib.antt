-- Lemmas on the definitions of specs/.
pub mod Approximation
pub mod Bits
pub mod Closest
pub mod Least
pub mod Steps
