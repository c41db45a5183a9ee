-- Words that the contracts of private functions cite, and no public one: which variables are words of one type, and
-- code that is made anew by a rule.
pub mod SameWords
pub mod Rewriting
