pub mod SourceWork
