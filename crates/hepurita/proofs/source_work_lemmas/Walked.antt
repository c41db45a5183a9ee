-- The work of a body with numbered variables, by the intervals where each loop stands.
use Rattle.std.proofs.Common.{◌≡◌, ℕ, ◌+◌, ◌*◌, List, refl, sym, ap₂, arith}
use Rattle.hepurita.specs.Below.{assign, body_work, Bounds, bounds_after, bounds_after_all, branch, chain, declare}
use Rattle.hepurita.specs.Below.{FlatBlock, FlatTree, FlatVariable, hold, in_loop, interval, most_iterations, put, skip}
use Rattle.hepurita.specs.Below.{term_nodes, terms_nodes, tree_work, where_false, where_true}
use Rattle.inline.specs.Flat.{array, loop, nothing, first}
use Rattle.hepurita.proofs.source_work_lemmas.Below.{AreCounted, AllCounted}

module _ (declared : List FlatVariable) where
  abbrev mutual
    pub walked : Bounds → FlatTree → ℕ
    walked bounds (declare x word mutable value) = 1 + term_nodes value
    walked bounds (array x word mutable size values) = 1 + size + terms_nodes values
    walked bounds (assign x value) = 1 + term_nodes value
    walked bounds (put place x size index value) = 1 + (1 + term_nodes index) + term_nodes value
    walked bounds (hold x place size index) = 1 + term_nodes index
    walked bounds skip = 1
    walked bounds (branch label condition accepted otherwise) =
        1 + term_nodes condition + walked_all (where_true declared bounds label condition) accepted
        + walked_all (where_false declared bounds label condition) otherwise
    walked bounds (loop x low high body) =
        term_nodes low + term_nodes high
        + (most_iterations (interval declared bounds low) (interval declared bounds high) + 1)
        * (1 + walked_all (in_loop declared bounds x low high) body)

    pub walked_all : Bounds → FlatBlock → ℕ
    walked_all bounds nothing = 0
    walked_all bounds (first s rest) = walked bounds s + walked_all (bounds_after declared bounds s) rest

  pub walked_chain : (bounds : Bounds) (a b : FlatBlock)
      → walked_all bounds (chain a b) ≡ walked_all bounds a + walked_all (bounds_after_all declared bounds a) b
  walked_chain bounds nothing b = omega arith
  walked_chain bounds (first s a) b = omega (arith, walked_chain (bounds_after declared bounds s) a b)

  -- where the iterations that are counted are those of each loop, the two are one
  module _ (iterations : List ℕ) where
    mutual
      tree_walked : (s : FlatTree) (bounds : Bounds) → AreCounted declared iterations bounds s
          → tree_work iterations s ≡ walked bounds s
      tree_walked (declare x word mutable value) bounds counted = refl
      tree_walked (array x word mutable size values) bounds counted = refl
      tree_walked (assign x value) bounds counted = refl
      tree_walked (put place x size index value) bounds counted = refl
      tree_walked (hold x place size index) bounds counted = refl
      tree_walked skip bounds counted = refl
      tree_walked (branch label condition accepted otherwise) bounds counted =
          ap₂ (λ a b. 1 + term_nodes condition + a + b)
          (body_walked accepted (where_true declared bounds label condition) counted.0)
          (body_walked otherwise (where_false declared bounds label condition) counted.1)
      tree_walked (loop x low high body) bounds counted =
          ap₂ (λ n w. term_nodes low + term_nodes high + (n + 1) * (1 + w)) (sym counted.0)
          (body_walked body (in_loop declared bounds x low high) counted.1)

      pub body_walked : (b : FlatBlock) (bounds : Bounds) → AllCounted declared iterations bounds b
          → body_work iterations b ≡ walked_all bounds b
      body_walked nothing bounds counted = refl
      body_walked (first s rest) bounds counted =
          ap₂ ◌+◌ (tree_walked s bounds counted.0) (body_walked rest (bounds_after declared bounds s) counted.1)
