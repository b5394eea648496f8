pub mod BoundLaws
pub mod WayLaws
pub mod CallLaws
pub mod TwoRuns
pub mod Examples
pub mod NestedLaws
