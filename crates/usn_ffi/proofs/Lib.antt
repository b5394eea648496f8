pub mod DomainLaws
pub mod RecordLaws
pub mod JournalLaws
pub mod WindowLaws
