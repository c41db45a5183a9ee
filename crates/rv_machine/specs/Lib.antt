-- What this crate defines, by file.
-- A step: Machine has the machine and its step, Effects what each instruction does with registers and program counter,
--   Plans what a planned step comes to, OneStep what a step of a run shows and how it ends, Stops the names of stops.
-- Runs: Leakage has whole runs and their traces, Progress runs in progress and how two of them compare, PairingText how
--   that answer is printed; Entries has the entries that an observer sees, and where two traces differ first.
-- Memory: Bytes has numbers in little-endian bytes, Flat and Paged memories of one range of addresses and of several,
--   Sizes the widths of loads and stores, Regions and Decoded code at a base address.
-- Recorders: Recording has what one does, ListRecording what one that keeps a list holds, HartRecording that of harts.
-- Harts: Registers and Harts have the state of one, System several over one memory and their schedule, RunningHarts
--   those in progress, Apart harts with disjoint data, of which each does what it does alone.
pub mod Apart
pub mod Bytes
pub mod Decoded
pub mod Effects
pub mod Entries
pub mod Flat
pub mod HartRecording
pub mod Harts
pub mod Leakage
pub mod ListRecording
pub mod Machine
pub mod Paged
pub mod PairingText
pub mod Plans
pub mod Progress
pub mod Recording
pub mod Regions
pub mod Registers
pub mod RunningHarts
pub mod Sizes
pub mod Stops
pub mod System
pub mod OneStep
pub mod Below
