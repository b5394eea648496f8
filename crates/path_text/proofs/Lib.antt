pub mod MarkerLaws
pub mod ImageLaws
pub mod NameLaws
pub mod CallLaws
pub mod Examples
