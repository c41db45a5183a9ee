pub mod Below
pub mod WordLemmas
pub mod FieldLemmas
pub mod WrapLaws
