pub mod NumberLemmas
pub mod FaultLemmas
pub mod TextLemmas
pub mod ReadLemmas
