-- The rules of numbered commands, and the promises that hold of them.
pub mod Rules
pub mod Strikes
pub mod Promise
pub mod Runs
pub mod Text
