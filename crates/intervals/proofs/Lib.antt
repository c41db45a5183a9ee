mod Below
pub mod UndoingLemmas
pub mod WalkLemmas
pub mod WorkLemmas
mod CostLemmas
pub mod BoundLemmas
pub mod RefusalLemmas
mod ListedLemmas
pub mod StrictRuns
pub mod Safe
pub mod LooseTypes
pub mod LooseIntervals
pub mod LooseTerms
pub mod LooseNarrowing
pub mod LooseStatements
pub mod Counting
pub mod EvaluatedLemmas
mod Examples
