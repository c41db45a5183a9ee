pub mod RuleNames
pub mod Within
pub mod Faults
pub mod Texts
pub mod Text
pub mod Agreement
pub mod PublicResults
