pub mod Explaining
pub mod Places
pub mod Standing
