-- Where code and frame lie unless other bases are named.
use Rattle.std.specs.Prelude.{ℕ}

abbrev pub code_base : ℕ
code_base = 0x0001_0000

abbrev pub frame_base : ℕ
frame_base = 0x1000_0000

-- Up to eight images may lie side by side: how far apart their code is, and their frames.
abbrev pub most_images : ℕ
most_images = 8

abbrev pub code_distance : ℕ
code_distance = 0x0010_0000

abbrev pub frame_distance : ℕ
frame_distance = 0x0001_0000
