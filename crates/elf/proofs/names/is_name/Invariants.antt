use Rattle.std.proofs.Common.{◌≡◌, ◌++◌, ◌∷◌, [], drop, nat_eq}
use Rattle.std.specs.List.{starts_with}
use Rattle.elf.proofs.names.is_name.Given as goal

abbrev pub invariant-bytes : goal.invariant-bytes
invariant-bytes l =
    starts_with nat_eq l.strings (l.name ++ 0 ∷ [])
    ≡ starts_with nat_eq (drop l.i l.strings) (drop l.i l.name ++ 0 ∷ [])
