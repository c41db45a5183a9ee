-- What counts say of the extents that they are counts of: the same, as far as a count goes.
use Rattle.std.proofs.Common.{◌≡◌, ℕ, Option, Some, None, refl, arith}
use Rattle.std.specs.Option.{option_map}
use Rattle.inline.specs.Counts.{AreCountsOf, counted_extent}
use Rattle.inline.specs.Below.{array, assignment, block_bodies, block_nodes, block_words, BlockTree, bodies_of_called}
use Rattle.inline.specs.Below.{call, called, called_nodes, CallTree, computed, conditional, counted, declaration}
use Rattle.inline.specs.Below.{element_assignment, Extent, extent_of, Extents, first, loop, nothing, ProcedureTree}
use Rattle.inline.specs.Below.{right_bodies, right_nodes, right_words, RightTree, statement_bodies, statement_nodes}
use Rattle.inline.specs.Below.{statement_words, StatementTree, words_of_called}

-- so many nodes, words and open bodies count the same as so many others
pub record CountsAlike (n w b m v d : ℕ) : Type 0 where
  pub nodes : counted n ≡ counted m
  pub words : counted w ≡ counted v
  pub bodies : counted b ≡ counted d

abbrev CallAlike : CallTree → Option Extent → Option Extent → Type 0
CallAlike c one other =
    CountsAlike (called_nodes one c) (words_of_called one) (bodies_of_called one) (called_nodes other c)
    (words_of_called other) (bodies_of_called other)

called_alike : (c : CallTree) (e : Option Extent) → CallAlike c (option_map counted_extent e) e
called_alike c None = record { nodes = refl; words = refl; bodies = refl }
called_alike c (Some e) = record { nodes = omega arith; words = omega arith; bodies = omega arith }

module _ (counts extents : Extents) (same : AreCountsOf counts extents) where
  call_alike : (c : CallTree) → CallAlike c (counts c.name) (extents c.name)
  call_alike c = rw (same c.name) (called_alike c (extents c.name))

  right_alike : (r : RightTree) → CountsAlike (right_nodes counts r) (right_words counts r) (right_bodies counts r)
      (right_nodes extents r) (right_words extents r) (right_bodies extents r)
  right_alike (called c) = call_alike c
  right_alike (computed e) = record { nodes = refl; words = refl; bodies = refl }

  mutual
    pub statement_alike : (s : StatementTree)
        → CountsAlike (statement_nodes counts s) (statement_words counts s) (statement_bodies counts s)
        (statement_nodes extents s) (statement_words extents s) (statement_bodies extents s)
    statement_alike (declaration p l m k t r) =
        let h = right_alike r in
        record { nodes = omega arith; words = omega arith; bodies = h.bodies }
    statement_alike (array p l m k n t v) = record { nodes = refl; words = refl; bodies = refl }
    statement_alike (assignment p g t r) =
        let h = right_alike r in
        record { nodes = omega arith; words = h.words; bodies = h.bodies }
    statement_alike (element_assignment p b g t e r) =
        let h = right_alike r in
        record { nodes = omega arith; words = h.words; bodies = h.bodies }
    statement_alike (call c) = call_alike c
    statement_alike (conditional p c a b) =
        let h = block_alike a in
        let k = block_alike b in
        record { nodes = omega arith; words = omega arith; bodies = omega arith }
    statement_alike (loop p c t l h b) =
        let k = block_alike b in
        record { nodes = omega arith; words = omega arith; bodies = k.bodies }

    pub block_alike : (b : BlockTree)
        → CountsAlike (block_nodes counts b) (block_words counts b) (block_bodies counts b)
        (block_nodes extents b) (block_words extents b) (block_bodies extents b)
    block_alike nothing = record { nodes = refl; words = refl; bodies = refl }
    block_alike (first s b) =
        let h = statement_alike s in
        let k = block_alike b in
        record { nodes = omega arith; words = omega arith; bodies = omega arith }

  -- what is counted by counts is what is counted by extents
  pub extent_same : (p : ProcedureTree) → counted_extent (extent_of counts p) ≡ counted_extent (extent_of extents p)
  extent_same p =
      let k = block_alike p.body in
      let n : counted (extent_of counts p).nodes ≡ counted (extent_of extents p).nodes =
      omega arith in
      let w : counted (extent_of counts p).words ≡ counted (extent_of extents p).words =
      omega arith in
      let b : counted (extent_of counts p).bodies ≡ counted (extent_of extents p).bodies =
      omega arith in
      λ i. record { parameters = p.parameters; nodes = n i; words = w i; bodies = b i }
