-- Words that the contracts of private functions cite, and no public one: which variables are named.
pub mod Named
