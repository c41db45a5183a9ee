-- Loads of an image's code.
use Rattle.std.specs.Prelude.{◌≢◌, None, ⊤}
use Rattle.image_reports.specs.Below.{code_at, code_base, Fields, word_at}
use Rattle.run_reports.specs.declared.origins.registers.Origin.{Origin}
use Rattle.run_reports.specs.declared.origins.registers.Origin.TheVariants.{Start, Load}

-- a word stands where a load is made that is an origin
abbrev pub Stands : Fields → Origin → Type 0
Stands image (Start r) = ⊤
Stands image (Load entry pc address) = word_at (code_at code_base image) pc ≢ None
