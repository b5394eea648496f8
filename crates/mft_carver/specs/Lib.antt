pub mod Settings
pub mod Entry
pub mod Carve
pub mod Promise
pub mod Masking
pub mod Sample
pub mod Step
