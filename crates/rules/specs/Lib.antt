-- The rules of the numbered service, and what is promised of them.
pub mod Rules
pub mod Standing
pub mod Promise
pub mod Text
