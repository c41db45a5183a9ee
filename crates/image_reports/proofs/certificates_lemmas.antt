pub mod Below
pub mod AnswerLemmas
pub mod CertificateLaws
pub mod Covered
pub mod LoadedLemmas
pub mod ReadLemmas
