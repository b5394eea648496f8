pub mod Domain
pub mod Key
pub mod Rewind
