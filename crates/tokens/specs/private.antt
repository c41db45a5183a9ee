-- Words that the contracts of private functions cite, and no public one: how a text is cut.
pub mod Splitting
