-- Words that the contracts of private functions cite, and no public one: how branches are removed, how straight
-- code is stored, and how it is tested.
pub mod Removal
pub mod StraightCodes
pub mod Checks
pub mod Counts
