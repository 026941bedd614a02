-- What the shared tables, dice and counts of the programs give.
pub mod Counted
pub mod Made
pub mod Outcomes
pub mod Rolls
