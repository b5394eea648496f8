pub mod FieldLaws
pub mod SignLaws
pub mod NumberLaws
pub mod ShownLaws
