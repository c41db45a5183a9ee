pub mod RuleNames
pub mod Wrapped
