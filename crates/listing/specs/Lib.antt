-- What this crate defines, by file.
-- Lines: the lines of listings; Listings: the listing of a run; Leaked: what `leak` answers; Code: the listing of code.
pub mod Code
pub mod Leaked
pub mod Lines
pub mod Listings
pub mod Below
