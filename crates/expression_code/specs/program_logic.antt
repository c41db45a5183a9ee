-- What the module defines, by file.
-- Placed: code at an address; StraightCode: straight-line code, executed symbolically.
-- Pieces: pieces of code: their costs, what they show and preserve, their effect on a state; MachineSteps: steps of
-- which more
--   is known; Jumps, Tests: jumps, and one of two pieces by a test.
pub mod Placed
pub mod StraightCode
pub mod MachineSteps
pub mod Pieces
pub mod Jumps
pub mod Tests
