pub mod Written
pub mod Ways
pub mod Promise
pub mod Alike
pub mod Sample
pub mod Words
