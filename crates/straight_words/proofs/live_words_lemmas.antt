pub mod HeldLemmas
pub mod TermLemmas
pub mod Grown
pub mod Rules
pub mod Same
pub mod Whole
pub mod Backwards
