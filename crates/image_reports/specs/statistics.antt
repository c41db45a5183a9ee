pub mod FieldsText
pub mod TypeText
