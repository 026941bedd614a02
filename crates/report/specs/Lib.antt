-- What is printed of a burn file.
pub mod Listing
