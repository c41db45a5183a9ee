-- What this crate defines, by file.
-- Straight: straight code; StraightMeaning: what it means; StraightTyping: its types; Kept: its invariant.
-- Bounds, Heights: its sizes, and the room that it needs in the frame.
-- Removed: what is promised of if-conversion; Exact: that a body has one straight program.
-- Replaced: straight code that may replace other, the promise of a pass; Checked: the test that a pass is made by.
-- Quiet: which expressions have an empty path.
-- Uses, Greatest: how much each variable is used, and which is used most.
-- private: Removal has how if-conversion works, Checks the test of types; for contracts of private functions alone.
pub mod Straight
pub mod StraightMeaning
pub mod StraightTyping
pub mod Heights
pub mod Bounds
pub mod Kept
pub mod Removed
pub mod Exact
pub mod Checked
pub mod Replaced
pub mod Quiet
pub mod Uses
pub mod Greatest
pub mod private
pub mod Below
