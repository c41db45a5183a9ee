mod Below
pub mod Rows
pub mod VariableLemmas
pub mod RunLemmas
pub mod LoopLemmas
pub mod BeginningLemmas
pub mod Opening
pub mod RunEnds
pub mod WorkedOut
pub mod EarlierCalls
pub mod ValuesHad
pub mod EndsHad
pub mod NamedCalls
pub mod OneEnd
pub mod StatementLemmas
