-- What this crate defines, by file.
-- Commanded: what a command line leads to; Requests: what each request prints and writes, and its exit status;
--   Contents: what files hold, and how that changes; Answered, Failures, FaultText: what is printed, and which calls
--   have failed.
-- Read from files: FileTexts a source, Sources one of several, Images an image, Executables an executable,
--   ImageArguments and Words arguments; ImageRefusals, FunctionRunRefusals, Unread: why not.
-- What a command prints: Judged of check, Violations of check --all, Costs of stat, Meanings of eval, Runs and
--   OutcomeText of run, Leaks of leak, Pairs of pair, Certificates of certify, Pictures of picture, Harts and
--   HartsText of harts, Vectors of vectors, FunctionCertificates of elf certify, FunctionLeaks of elf leak,
--   FunctionWitnesses of elf witness; Stops has exit statuses, Progress the lines of progress, StepCounts that of
--   steps. What it writes: Written one file, TwoFiles two, FunctionFiles those of function, WrappedCode the image of
--   wrap.
-- json: answers in JSON, Faults those of what is refused, Performed what comes of a request.
pub mod json
pub mod Contents
pub mod Costs
pub mod OutcomeText
pub mod Unread
pub mod Images
pub mod Words
pub mod Stops
pub mod ImageRefusals
pub mod ImageArguments
pub mod Runs
pub mod Leaks
pub mod Pairs
pub mod Certificates
pub mod Executables
pub mod FunctionCertificates
pub mod FunctionLeaks
pub mod FunctionWitnesses
pub mod FunctionRunRefusals
pub mod Pictures
pub mod FileTexts
pub mod Sources
pub mod Meanings
pub mod HartsText
pub mod Harts
pub mod Judged
pub mod Violations
pub mod Written
pub mod WrappedCode
pub mod TwoFiles
pub mod FunctionFiles
pub mod FaultText
pub mod Failures
pub mod Vectors
pub mod StepCounts
pub mod Progress
pub mod Requests
pub mod Answered
pub mod Commanded
pub mod Below
