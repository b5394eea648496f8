pub mod DomainLaws
pub mod CallLaws
