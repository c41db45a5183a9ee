-- Words that the contracts of private functions cite, and no public one: how a word and a halfword are read.
pub mod Reading
pub mod Halfwords
