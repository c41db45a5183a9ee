pub mod Agreeing
pub mod Amounts
mod Below
pub mod Carries
pub mod Covering
pub mod Ends
pub mod FirstEntry
pub mod KnownSteps
pub mod Marks
pub mod Numbers
pub mod OneEnd
pub mod Orders
pub mod Rows
pub mod Runs
pub mod ShiftedBits
pub mod Unknown
pub mod Words
