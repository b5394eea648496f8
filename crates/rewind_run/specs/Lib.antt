pub mod Running
pub mod Stopping
pub mod Calls
pub mod Promise
