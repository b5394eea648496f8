pub mod PartsLaws
pub mod ReadLaws
