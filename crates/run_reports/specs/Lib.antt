-- What this crate defines, by folder, one a module.
-- run_places: Places has the steps of a run by the entries that they show, Reads the registers that an instruction
--   reads, Shown what a run shows at a place.
-- progress: Lines has the lines of progress, GoingOn how many there are, Certified those of certified runs.
-- origins: Origins has where what is unknown of registers comes from, Traced the same along a certified run, Reading
--   and Stepped how the code follows it.
-- pictures: Page has the page, Grid its columns and rows, Marks what stands in them, Constants its fixed text, Pictured
--   which page is the picture of two runs, Telling what goes out while it is made.
pub mod run_places
pub mod progress
pub mod origins
pub mod pictures
pub mod Below
