-- Words that the contracts of private functions cite, and no public one: which loops are grouped, and how.
pub mod Losses
pub mod Choice
pub mod Grouping
