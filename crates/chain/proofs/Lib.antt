pub mod ChainLaws
pub mod PlaceLaws
pub mod WayLaws
pub mod CallLaws
pub mod TwoRuns
