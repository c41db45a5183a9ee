pub mod NotedLemmas
pub mod OrderLemmas
