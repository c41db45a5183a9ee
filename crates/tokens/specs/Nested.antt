-- What a count of nesting is as a value.
use Rattle.tokens.specs.declared.nesting.Nesting.{Nesting}
use Rattle.tokens.specs.Nesting.{Nest}

-- how deeply the tokens so far are nested
abbrev pub nest : Nesting → Nest
nest n = record { count = n.count; bases = n.bases.items; after_block = n.after_block }
