pub mod Signature
pub mod SectorEnds
pub mod Homes
pub mod Stored
pub mod Restored
