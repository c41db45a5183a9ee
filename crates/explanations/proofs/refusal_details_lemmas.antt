pub mod DetailLemmas
pub mod SourceNames
