use Rattle.std.proofs.Common.{◌≡◌, ◌++◌, drop, codes, map}
use Rattle.std.specs.List.{flat_map}
use Rattle.std.specs.String.{string_bytes}
use Rattle.image_reports.proofs.vectors.texts.push_texts.Given as goal

-- the texts so far, and those that are left, are all
abbrev pub invariant-loop-further : goal.invariant-loop-further
invariant-loop-further l =
    string_bytes l.text ++ flat_map (λ text. codes " " ++ text)
    (map (λ text. text.now) (drop l.further-index l.texts))
    ≡ string_bytes l.fn.text ++ flat_map (λ text. codes " " ++ text) (map (λ text. text.now) l.texts)
