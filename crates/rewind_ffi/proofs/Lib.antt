pub mod DomainLaws
pub mod StepLaws
pub mod CallLaws
