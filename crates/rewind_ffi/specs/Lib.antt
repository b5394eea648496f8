pub mod Rewind
pub mod Run
pub mod Promise
