pub mod Exact
pub mod private
