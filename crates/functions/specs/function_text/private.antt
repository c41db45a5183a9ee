-- Words that the contracts of private functions cite, and no public one.
pub mod OfExport
