pub mod BodyLemmas
pub mod ElementLemmas
pub mod ArgumentLemmas
pub mod DistanceLemmas
pub mod WordLemmas
pub mod CallLemmas
