-- What this crate defines, by file.
-- SideBySide: images side by side on one memory; Frames, EndSpace: their frames, and room for how they end.
-- Refused: what `run_harts` refuses; RuleNames: the names of these rules; RunHarts, Ends: what it answers.
-- EverySchedule: what is promised of images of accepted sources under every schedule.
pub mod EndSpace
pub mod Ends
pub mod EverySchedule
pub mod Frames
pub mod Refused
pub mod RuleNames
pub mod RunHarts
pub mod SideBySide
pub mod Below
