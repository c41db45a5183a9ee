use Rattle.std.proofs.Common.{◌≡◌, map, take}
use Rattle.std.specs.String.{string_bytes}
use Rattle.commands.proofs.side_by_side.lent.Given as goal

-- those so far are lent
abbrev pub invariant-texts : goal.invariant-texts
invariant-texts l = map (λ text. text.now) l.lent.items ≡ map string_bytes (take l.text-index l.texts)
