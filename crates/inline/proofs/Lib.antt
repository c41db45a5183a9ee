mod Below
pub mod Linked
pub mod Comes
pub mod Chains
pub mod FinePaths
pub mod ChainTypes
pub mod Terms
pub mod States
pub mod Parameters
pub mod Procedures
pub mod Begun
pub mod Listed
pub mod CallTypes
pub mod Hiding
pub mod FlatTypes
pub mod FlatPrograms
pub mod CallSizes
pub mod FlatSizes
pub mod Passing
pub mod Called
pub mod Copied
pub mod CallEnds
pub mod Rights
pub mod Kept
pub mod FlatEnds
pub mod FlatMeanings
pub mod TypesKept
pub mod Fitting
pub mod FittingBodies
pub mod BlockLemmas
pub mod RowLemmas
pub mod PassLemmas
pub mod NumberingLemmas
pub mod Measures
mod SizeLemmas
pub mod CountLemmas
mod CostLemmas
mod MeasureLemmas
pub mod TableLemmas
pub mod Face
