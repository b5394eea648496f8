pub mod Listing
pub mod Promise
