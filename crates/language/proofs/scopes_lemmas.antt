pub mod EffectLemmas
pub mod ScopeLemmas
pub mod Distances
pub mod NearLemmas
