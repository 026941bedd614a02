-- Lemmas on the listing.
pub mod Lines
