pub mod Scan
pub mod Window
pub mod Carver
pub mod Promise
