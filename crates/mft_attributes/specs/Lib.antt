pub mod Filename
pub mod Attributes
pub mod Step
