-- What passes no limit on size.
use Rattle.std.proofs.Common.{◌≡◌, ℕ, ◌≤◌, Bool, true, false, nat_lt, ◌||◌, ◌++◌, length, refl, arith}
use Rattle.std.proofs.lemmas.Bool.Decides.{nat_tests}
use Rattle.language.specs.declared.rule.Rule.TheVariants.{InlinedSize, DeclaredBytes}
use Rattle.language.specs.declared.why.Why.{Why}
use Rattle.language.specs.declared.why.Why.TheVariants.{TooMuch}
use Rattle.language.specs.Limits.{most_bodies, most_declared_bytes, most_nodes}
use Rattle.language.specs.Size.{Extents, bodies_of, bytes_excess, declared_bytes, limits_passed, nodes_of, size_excess}
use Rattle.language.specs.Tree.{ProcedureTree}
use Rattle.language.specs.Types.{because, when}
use Rattle.word.specs.declared.place.Place.{Place}

-- it has few nodes, opens few bodies and declares few bytes
pub record IsFew (extents : Extents) (p : ProcedureTree) : Type 0 where
  pub nodes : nodes_of extents p ≤ most_nodes
  pub bodies : bodies_of extents p ≤ most_bodies
  pub bytes : declared_bytes extents p ≤ most_declared_bytes

none_passed : (place : Place) (one other : Why) (many deep long : Bool)
    → length (because one place (when (many || deep) InlinedSize) ++ because other place (when long DeclaredBytes)) ≡ 0
    → (many ≡ false) × (deep ≡ false) × (long ≡ false)
none_passed place one other true deep long none = absurd (omega arith)
none_passed place one other false true long none = absurd (omega arith)
none_passed place one other false false true none = absurd (omega arith)
none_passed place one other false false false none = (refl, refl, refl)

pub few_of : (extents : Extents) (p : ProcedureTree) → length (limits_passed extents p) ≡ 0 → IsFew extents p
few_of extents p none =
    let e = none_passed p.place (TooMuch (size_excess extents p)) (TooMuch (bytes_excess extents p))
    (nat_lt most_nodes (nodes_of extents p)) (nat_lt most_bodies (bodies_of extents p))
    (nat_lt most_declared_bytes (declared_bytes extents p)) none in
    record {
      nodes = grind (arith, nat_tests, e.0);
      bodies = grind (arith, nat_tests, e.1);
      bytes = grind (arith, nat_tests, e.2);
    }
