-- The code of an element of an array, and whether elements go as they are, by the way in which the array is copied.
use Rattle.std.specs.Prelude.{ℕ, Bool, List, true}
use Rattle.functions.specs.Below.{copied_in_code, copied_out_code, goes_in_as_it_is, Instr, Kind}
use Rattle.functions.specs.declared.function_code.copying.Way.{Way}
use Rattle.functions.specs.declared.function_code.copying.Way.TheVariants.{In, Out}

abbrev pub element_code : Way → Kind → ℕ → List Instr
element_code In kind = copied_in_code kind
element_code Out kind = copied_out_code kind

abbrev pub goes_unchanged : Way → Kind → Bool
goes_unchanged In kind = goes_in_as_it_is kind
goes_unchanged Out kind = true
