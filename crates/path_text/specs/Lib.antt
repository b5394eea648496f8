pub mod Text
pub mod Restoring
pub mod Decoding
pub mod Promise
