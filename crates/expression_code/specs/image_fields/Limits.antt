-- The greatest counts of an image.
use Rattle.std.specs.Prelude.{ℕ}

-- its parameters
abbrev pub most_parameters : ℕ
most_parameters = 8192

-- the bytes of its frame
abbrev pub most_frame_bytes : ℕ
most_frame_bytes = 65536

-- the steps that a run may take: 32 for each node of the most work, and 64
abbrev pub most_steps : ℕ
most_steps = 137438953536

-- its code words: 32 for each of the most nodes, and 64
abbrev pub most_words : ℕ
most_words = 192064
