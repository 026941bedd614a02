-- Lemmas on the definitions of specs/.
pub mod Totals
pub mod Logs
pub mod Runs
pub mod Changed
pub mod Limits
pub mod Strikes
pub mod Keeping
