-- What this crate defines, by file. What a program means is defined in `language`: Meaning and Evaluation.
-- Answer: what `eval` answers; FaultText: how its errors are printed.
-- Metering, Views: how a budget is used up, and the running program's values; for contracts of private functions alone.
pub mod FaultText
pub mod Views
pub mod Metering
pub mod Answer
pub mod Below
