pub mod AddingLaws
pub mod SeedLaws
