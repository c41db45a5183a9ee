pub mod names_lemmas
pub mod scopes_lemmas
pub mod arguments_lemmas
pub mod typing_laws_lemmas
pub mod BlockLemmas
pub mod KnownLemmas
pub mod SoonerLemmas
pub mod Handed
pub mod ShareLemmas
pub mod LimitLemmas
mod GreatestLemmas
