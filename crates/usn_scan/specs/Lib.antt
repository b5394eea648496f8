pub mod Scan
pub mod Outcome
pub mod Promise
pub mod Step
