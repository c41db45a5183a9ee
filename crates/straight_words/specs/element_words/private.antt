-- Words that the contracts of private functions cite, and no public one: which arrays become words, and how.
pub mod Parts
pub mod Narrowing
pub mod Splitting
pub mod Plan
