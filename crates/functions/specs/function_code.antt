pub mod Above
pub mod private
