pub mod Depicted
pub mod Filled
pub mod Painted
pub mod Reported
pub mod Sizes
pub mod Written
