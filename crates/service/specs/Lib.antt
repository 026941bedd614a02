-- What a service holds, and how it is opened and run.
pub mod Books
pub mod Numbers
pub mod Booked
pub mod Opening
pub mod Stands
pub mod Holds
pub mod Replies
pub mod Prices
pub mod Sheets
pub mod Runs
pub mod AnyTerms
