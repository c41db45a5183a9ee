pub mod Below
pub mod Spelling
pub mod EndLines
pub mod Standing
pub mod Explanations
