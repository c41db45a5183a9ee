pub mod EntryLemmas
pub mod Lookup
