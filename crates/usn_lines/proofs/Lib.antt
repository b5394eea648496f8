pub mod PassLaws
pub mod PathLaws
pub mod PartLaws
pub mod ListingLaws
