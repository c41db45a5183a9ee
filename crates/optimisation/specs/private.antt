-- Words that the contracts of private functions cite, and no public one: how many nodes expressions have.
pub mod Nodes
