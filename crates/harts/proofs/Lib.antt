mod Below
mod EndLemmas
mod EndSpaceLemmas
mod EveryScheduleLemmas
mod FrameLemmas
pub mod Numbering
pub mod RefusalLemmas
pub mod SharedFrames
mod SystemLemmas
mod Resting
