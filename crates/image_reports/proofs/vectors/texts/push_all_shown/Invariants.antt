use Rattle.std.proofs.Common.{◌≡◌, ◌++◌, drop, map}
use Rattle.std.specs.String.{string_bytes}
use Rattle.image_reports.specs.vectors.Texts.{all_shown}
use Rattle.image_reports.proofs.vectors.texts.push_all_shown.Given as goal

-- the lists so far, and those that are left, are all
abbrev pub invariant-loop-index : goal.invariant-loop-index
invariant-loop-index l =
    string_bytes l.text ++ all_shown (map (λ text. text.now) (drop l.index l.wanted)) (drop l.index l.lists)
    ≡ string_bytes l.fn.text ++ all_shown (map (λ text. text.now) l.wanted) l.lists
