pub mod Starting
pub mod Stepping
pub mod Written
pub mod Promise
pub mod Words
