pub mod EntryLaws
pub mod RunLaws
pub mod FillLaws
pub mod CallLaws
pub mod HomeExamples
pub mod ImageTwoRuns
pub mod Examples
pub mod DecodedLaws
