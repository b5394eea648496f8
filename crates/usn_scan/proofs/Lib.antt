pub mod StepLaws
pub mod ScanLaws
pub mod TwoRunLaws
pub mod OutcomeTwoRuns
pub mod OutcomeLaws
pub mod ListedLaws
pub mod Examples
pub mod ZeroLaws
