pub mod EntryLaws
pub mod SeedLaws
pub mod FlatLaws
