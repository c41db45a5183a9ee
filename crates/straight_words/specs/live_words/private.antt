-- Words that the contracts of private functions cite, and no public one: how words share variables.
pub mod Held
pub mod Terms
pub mod Gathering
pub mod Choice
pub mod Sharing
pub mod Whole
