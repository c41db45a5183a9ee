pub mod BlockTrees
pub mod expected_tokens_lemmas
pub mod call_places_lemmas
pub mod habits_lemmas
pub mod refusal_details_lemmas
pub mod explained_refusals_lemmas
mod DistinctTexts
mod EitherGroup
mod FoundRows
mod NamedRows
mod OneOfGroups
