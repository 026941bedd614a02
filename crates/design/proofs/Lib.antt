-- Lemmas on the definitions of specs/.
pub mod First
pub mod Pairs
pub mod Reasons
pub mod Tallies
