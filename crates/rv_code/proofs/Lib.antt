pub mod ExpansionLaws
pub mod FieldLaws
pub mod HalfwordFields
pub mod HalfwordLaws
pub mod HalfwordRange
pub mod RowLaws
pub mod WordLaws
