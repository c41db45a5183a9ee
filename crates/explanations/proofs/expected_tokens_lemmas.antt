pub mod ExpectedLemmas
