pub mod Answers
pub mod Faults
pub mod Names
pub mod Performed
pub mod Printed
