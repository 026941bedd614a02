-- Lemmas on the definitions of specs/.
pub mod Runs
pub mod Repeats
pub mod Handed
pub mod Fits
pub mod Altered
pub mod Promise
pub mod Refusals
