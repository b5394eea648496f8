pub mod ChoiceLaws
pub mod WalkLaws
pub mod ListLaws
pub mod WordLaws
pub mod AgreeLaws
pub mod MaskedLaws
pub mod RowLaws
pub mod RefusalLaws
