-- The one refusal that names no place.
use Rattle.std.specs.Prelude.{◌≡◌, Option, None}
use Rattle.word.specs.declared.place.Place.{Place}
use Rattle.language.specs.declared.rule.Rule.{Rule}
use Rattle.language.specs.declared.rule.Rule.TheVariants.{OutOfMemory}

-- a growth was refused, which has no place in the text
abbrev pub IsWantOfMemory : Rule → Option Place → Type 0
IsWantOfMemory rule place = (rule ≡ OutOfMemory) × (place ≡ None)
