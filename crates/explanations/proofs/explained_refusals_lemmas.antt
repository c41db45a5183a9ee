pub mod ListedRules
