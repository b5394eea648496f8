pub mod Running
pub mod Promise
pub mod Words
