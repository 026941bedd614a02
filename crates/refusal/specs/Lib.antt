-- The table of refusals, for every contract that can refuse.
pub mod Table
pub mod Text
