-- What is put into an element: the store of a byte or of a half cuts its value itself, so a conversion to the element's
-- own kind needs no instruction.
use Rattle.std.specs.Prelude.{Bool, true, false, if◌then◌else◌}
use Rattle.expression_code.specs.Allocation.{Allocation}
use Rattle.codegen.specs.Below.{convert, Kind, TermTree, Uint16, Uint8}

-- whether the store of an element of one kind cuts a value as a conversion to the other does
abbrev pub cuts : Kind → Kind → Bool
cuts Uint8 Uint8 = true
cuts Uint16 Uint16 = true
cuts element conversion = false

-- an expression without the conversion that an element's store makes
abbrev pub uncut : Kind → TermTree → TermTree
uncut element (convert conversion e) = if cuts element conversion then e else convert conversion e
uncut element e = e

-- what is put into an element of a kind for an expression: in optimised code it is not cut twice
abbrev pub stored_value : Allocation → Kind → TermTree → TermTree
stored_value allocation element e = if allocation.immediates then uncut element e else e
