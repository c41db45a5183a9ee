-- Words that the contracts of private functions cite, and no public one: how the reader follows the format, and the
-- bytes that the writer puts one after another.
pub mod Following
pub mod Spelling
