pub mod Below
pub mod Reading
pub mod Origins
pub mod Traced
pub mod Stepped
