pub mod DomainLaws
pub mod RewindLaws
