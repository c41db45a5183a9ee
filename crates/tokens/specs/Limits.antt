-- The greatest counts of a text.
use Rattle.std.specs.Prelude.{ℕ}

-- its bytes
abbrev pub source_limit : ℕ
source_limit = 262144

-- how deeply a token is nested
abbrev pub nesting_limit : ℕ
nesting_limit = 64
