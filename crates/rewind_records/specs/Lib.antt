pub mod Environment
pub mod Turning
