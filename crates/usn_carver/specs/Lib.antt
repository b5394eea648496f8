pub mod Settings
pub mod Events
pub mod Carve
pub mod Promise
pub mod Step
pub mod Masking
