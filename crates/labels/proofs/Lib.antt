mod TypeLemmas
mod RuleLemmas
mod ClashLemmas
mod TreeLemmas
pub mod ExportLemmas
pub mod TypedLemmas
