pub mod Broken
pub mod Walks
pub mod Preference
pub mod NameLemmas
pub mod Loading
pub mod Answering
pub mod Apart
