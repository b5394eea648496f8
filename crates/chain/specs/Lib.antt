pub mod Settings
pub mod Chain
pub mod Way
pub mod Tracing
pub mod Promise
pub mod Words
