pub mod Products
pub mod ShapeValues
pub mod Same
pub mod Whole
