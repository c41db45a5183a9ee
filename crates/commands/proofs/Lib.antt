pub mod Beginnings
pub mod WordLemmas
pub mod CertificateLemmas
mod CodeLemmas
mod ExecutableLemmas
mod FunctionLeakLemmas
mod LeakFaults
pub mod ImageLemmas
mod Writing
mod Counting
mod FunctionFaults
pub mod StreamCounts
mod MeasuringLemmas
mod PictureLemmas
mod PictureProgress
mod ProgressLemmas
mod StepLemmas
mod RunLines
mod RequestLemmas
mod JoinedLines
mod SourceLemmas
mod AnswerLemmas
mod JsonLemmas
mod MeaningLemmas
mod HartLemmas
mod VectorLemmas
mod ViolationLemmas
