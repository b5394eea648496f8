pub mod Taking
pub mod StepText
pub mod Making
pub mod Promise
