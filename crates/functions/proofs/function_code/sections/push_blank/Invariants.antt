use Rattle.std.proofs.Common.{◌≡◌, ◌∷◌, ◌++◌, drop, map}
use Rattle.linked_calls.specs.declared.section.Section.TheVariants.{BlankWord, LoweredStack}
use Rattle.functions.proofs.function_code.sections.push_blank.Given as goal

abbrev pub invariant-loop-offset : goal.invariant-loop-offset
invariant-loop-offset l =
    l.sections.items ++ map BlankWord (drop l.offset-index l.offsets)
    ≡ l.fn.sections.items ++ LoweredStack ∷ map BlankWord l.fn.offsets
