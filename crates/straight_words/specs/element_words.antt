pub mod Limits
pub mod Exact
pub mod private
