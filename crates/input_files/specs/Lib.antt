-- What this crate defines, by folder, one a module.
-- stream_build: Faults has which error the bytes of an input stream have.
-- wrapping: Wrapped has code from elsewhere as an image, and the first violated rule; RuleNames the names of these
--   rules.
-- harts_file: Lines has the lines of a file of harts, Plans the plan of a file, Jobs its parts, Faults the first faulty
--   line, Text how it is printed.
pub mod stream_build
pub mod wrapping
pub mod harts_file
pub mod Below
