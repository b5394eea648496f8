pub mod Case
pub mod Bytes
pub mod Records
pub mod Journals
pub mod Images
pub mod Paths
pub mod Cases
pub mod Scope
