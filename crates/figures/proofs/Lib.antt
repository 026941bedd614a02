-- Lemmas on the known figures.
pub mod Burnt
pub mod Eight
