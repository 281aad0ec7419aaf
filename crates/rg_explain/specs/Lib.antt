pub mod Listing
pub mod Stops
