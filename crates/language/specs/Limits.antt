-- The greatest counts of the language. Those of a text are its reader's.
use Rattle.std.specs.Prelude.{ℕ}

-- nodes of a procedure, those of the bodies that it calls among them
abbrev pub most_nodes : ℕ
most_nodes = 6000

-- bodies that are open at once, each in the one that calls it, the export's among them
abbrev pub most_bodies : ℕ
most_bodies = 64

-- bytes that a procedure declares
abbrev pub most_declared_bytes : ℕ
most_declared_bytes = 32768

-- elements of an array
abbrev pub most_elements : ℕ
most_elements = 4096
