pub mod PassedOn
pub mod PutArguments
pub mod FrameValues
pub mod BlankLemmas
pub mod AnyFrame
pub mod Anywhere
