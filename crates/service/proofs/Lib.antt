-- What the ledger and the log do to a service that stands as the rules have it.
pub mod Own
pub mod Alike
pub mod Booking
pub mod Obeying
pub mod Flags
pub mod Handing
pub mod Prices
pub mod Opening
pub mod Sheets
pub mod Rooms
pub mod Gone
