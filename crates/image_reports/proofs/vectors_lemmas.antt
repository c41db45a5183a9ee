pub mod Below
pub mod ReadLemmas
pub mod TextLemmas
pub mod SpellLemmas
pub mod GivenLemmas
pub mod MeaningLemmas
pub mod VerdictLemmas
pub mod ExactLemmas
