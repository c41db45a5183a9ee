pub mod KnownLemmas
pub mod Alike
