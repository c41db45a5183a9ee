-- Words that the contracts of private functions cite, and no public one: how straight code is made simpler.
pub mod Known
pub mod Fields
pub mod Powers
pub mod Folding
pub mod Simplification
pub mod Costs
pub mod Choice
