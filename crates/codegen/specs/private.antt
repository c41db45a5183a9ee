-- Words that the contracts of private functions cite, and no public one: the instructions that are emitted, one list
-- for each statement, and where they have room.
pub mod Jumps
pub mod Words
pub mod StoredValues
pub mod WordPuts
pub mod Compared
pub mod Loops
pub mod Erased
pub mod Emitted
pub mod Fresh
pub mod Placed
pub mod Generated
pub mod Uses
pub mod MirrorUses
pub mod Reads
pub mod Room
pub mod Homes
