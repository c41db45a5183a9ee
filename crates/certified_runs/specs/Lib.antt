-- What this crate defines, by file.
-- Bits: words of which some bits are unknown; a row for each operation.
-- Known: abstract states: some bits of each register and of each byte are unknown.
-- Certified: a step and a run of such states; Amounts: by how much registers are shifted.
-- Parts: what masks and marks say is known; End: the answer of a run.
-- private: how the code follows them; for contracts of private functions alone.
pub mod Amounts
pub mod Bits
pub mod Certified
pub mod End
pub mod Known
pub mod Parts
pub mod private
pub mod Below
