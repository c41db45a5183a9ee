-- Words that the contracts of private functions cite, and no public one: which numbers become words, and how.
pub mod Uses
pub mod Wording
pub mod Plan
