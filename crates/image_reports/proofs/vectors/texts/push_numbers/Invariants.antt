use Rattle.std.proofs.Common.{◌≡◌, ◌++◌, drop, codes}
use Rattle.std.specs.Fmt.{decimal}
use Rattle.std.specs.List.{flat_map}
use Rattle.std.specs.String.{string_bytes}
use Rattle.image_reports.specs.vectors.Texts.{numbers_text}
use Rattle.image_reports.proofs.vectors.texts.push_numbers.Given as goal

-- the numbers so far, and those that are left, are all
abbrev pub invariant-loop-further : goal.invariant-loop-further
invariant-loop-further l =
    string_bytes l.text ++ flat_map (λ further. codes "," ++ decimal further) (drop l.further-index l.later)
    ≡ string_bytes l.fn.text ++ numbers_text l.numbers
