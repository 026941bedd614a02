-- Lemmas on the burn file.
pub mod Sums
pub mod Fronts
pub mod Fields
pub mod Entries
pub mod Loads
pub mod Checks
pub mod Writes
pub mod Sealed
pub mod Accepted
pub mod RoundTrip
pub mod Scans
pub mod Faults
pub mod Laws
