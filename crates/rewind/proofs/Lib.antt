pub mod StartLaws
pub mod BeginLaws
pub mod StepLaws
pub mod TextLaws
