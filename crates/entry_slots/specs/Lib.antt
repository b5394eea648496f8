pub mod Names
pub mod Slots
pub mod Table
pub mod Index
pub mod Probing
