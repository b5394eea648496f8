pub mod Bytes
pub mod Layout
pub mod Fields
pub mod Record
pub mod References
pub mod Names
pub mod Sample
pub mod Zeros
