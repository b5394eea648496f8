pub mod StopLaws
pub mod AsSteps
pub mod CallLaws
