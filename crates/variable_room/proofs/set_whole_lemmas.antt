pub mod FlagLemmas
pub mod Counters
pub mod Watched
pub mod Arguments
