pub mod Below
pub mod InStep
pub mod Trying
pub mod MoreSet
pub mod Found
pub mod Tries
