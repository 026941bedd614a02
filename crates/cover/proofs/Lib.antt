-- The laws of tables of cubes.
pub mod FirstGiven
pub mod Checks
pub mod Reading
pub mod Apart
pub mod Tallies
pub mod Reasons
