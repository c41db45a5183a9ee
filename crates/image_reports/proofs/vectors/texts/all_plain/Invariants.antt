use Rattle.std.proofs.Common.{◌≡◌, ◌++◌, drop, map}
use Rattle.std.specs.String.{string_bytes}
use Rattle.image_reports.specs.vectors.Texts.{plain}
use Rattle.image_reports.proofs.vectors.texts.all_plain.Given as goal

-- the texts so far, and those that are left, are all
abbrev pub invariant-loop-text : goal.invariant-loop-text
invariant-loop-text l =
    map string_bytes l.strings.items ++ map plain (map (λ text. text.now) (drop l.text-index l.texts))
    ≡ map plain (map (λ text. text.now) l.texts)
