-- What is counted by counts of the called procedures is what is counted by their extents; and so are the limits passed.
use Rattle.std.proofs.Common.{◌≡◌, ℕ, ◌<◌, ◌≤◌, ◌||◌, Bool, nat_lt, List, ◌∷◌, ◌++◌, map, if◌then◌else◌, refl, sym}
use Rattle.std.proofs.Common.{ap, ap₂, ◌∙◌, arith}
use Rattle.std.proofs.lemmas.Bool.Decides.{nat_tests}
use Rattle.std.proofs.lemmas.List.{map-append}
use Rattle.inline.proofs.CountLemmas.{block_alike, statement_alike}
use Rattle.inline.specs.Counts.{AreCountsOf}
use Rattle.inline.specs.Measured.{passed_by}
use Rattle.inline.specs.declared.costs.SizeCosts.{SizeCosts}
use Rattle.inline.specs.Below.{because, BlockTree, bodies_cost, bodies_of, bytes_cost, counted, counted_share}
use Rattle.inline.specs.Below.{declared_bytes, excess, Extents, first, largest, limits_passed, most_bodies}
use Rattle.inline.specs.Below.{most_counted, most_declared_bytes, most_nodes, nodes_cost, nodes_of, nothing, Place}
use Rattle.inline.specs.Below.{place_of, ProcedureTree, Share, statement_bodies, statement_bytes, statement_nodes}
use Rattle.inline.specs.Below.{statement_shares, StatementTree, when}
use Rattle.language.specs.declared.cost.Cost.{Cost}
use Rattle.language.specs.declared.rule.Rule.TheVariants.{InlinedSize, DeclaredBytes}
use Rattle.language.specs.declared.typing.Violation.{Violation}
use Rattle.language.specs.declared.why.Counted.TheVariants as what
use Rattle.language.specs.declared.why.Why.TheVariants.{TooMuch}

module _ (counts extents : Extents) (same : AreCountsOf counts extents) where
  shares_alike : (one other : StatementTree → ℕ) → ((s : StatementTree) → counted (one s) ≡ counted (other s))
      → (b : BlockTree) → map counted_share (statement_shares one b) ≡ map counted_share (statement_shares other b)
  shares_alike one other alike nothing = refl
  shares_alike one other alike (first s b) =
      ap₂ (λ (n : ℕ) (rest : List Share). record { place = place_of s; count = n } ∷ rest) (alike s)
      (shares_alike one other alike b)

  pub nodes_alike : (p : ProcedureTree) → nodes_cost counts p ≡ nodes_cost extents p
  nodes_alike p =
      let whole : counted (nodes_of counts p) ≡ counted (nodes_of extents p) =
      omega (arith, (block_alike counts extents same p.body).nodes) in
      let shares = shares_alike (statement_nodes counts) (statement_nodes extents)
      (λ s. (statement_alike counts extents same s).nodes) p.body in
      let most : (nodes_cost counts p).largest ≡ (nodes_cost extents p).largest =
      simp (map-append, shares) in
      λ i. record { whole = whole i; largest = most i }

  pub bodies_alike : (p : ProcedureTree) → bodies_cost counts p ≡ bodies_cost extents p
  bodies_alike p =
      let whole : counted (bodies_of counts p) ≡ counted (bodies_of extents p) =
      omega (arith, (block_alike counts extents same p.body).bodies) in
      let most = ap largest (shares_alike (statement_bodies counts) (statement_bodies extents)
      (λ s. (statement_alike counts extents same s).bodies) p.body) in
      λ i. record { whole = whole i; largest = most i }

  pub bytes_alike : (p : ProcedureTree) → bytes_cost counts p ≡ bytes_cost extents p
  bytes_alike p =
      let whole : counted (declared_bytes counts p) ≡ counted (declared_bytes extents p) =
      omega (arith, (block_alike counts extents same p.body).words) in
      let shares = shares_alike (statement_bytes counts) (statement_bytes extents)
      (λ s. omega (arith, (statement_alike counts extents same s).words)) p.body in
      let most : (bytes_cost counts p).largest ≡ (bytes_cost extents p).largest =
      simp (map-append, shares) in
      λ i. record { whole = whole i; largest = most i }

-- a limit is passed by what is counted where it is passed by what there is
counted_test : (limit n : ℕ) → limit < most_counted → nat_lt limit (counted n) ≡ nat_lt limit n
counted_test limit n small = grind (arith, nat_tests)

same_test : (limit a b : ℕ) → limit < most_counted → counted a ≡ counted b → nat_lt limit a ≡ nat_lt limit b
same_test limit a b small same =
    sym (counted_test limit a small) ∙ ap (nat_lt limit) same ∙ counted_test limit b small

-- the limits that are passed, by which are, and by the costs
abbrev passed : Place → Bool → Bool → Bool → Cost → Cost → Cost → List Violation
passed place many deep long nodes bodies bytes =
    because
    (TooMuch (if many then excess what.Nodes nodes else excess what.Bodies bodies))
    place (when (many || deep) InlinedSize)
    ++ because (TooMuch (excess what.DeclaredBytes bytes)) place (when long DeclaredBytes)

pub limits_alike : (counts extents : Extents) → AreCountsOf counts extents → (p : ProcedureTree)
    → limits_passed counts p ≡ limits_passed extents p
limits_alike counts extents same p =
    let nodes = nodes_alike counts extents same p in
    let bodies = bodies_alike counts extents same p in
    let bytes = bytes_alike counts extents same p in
    let many = same_test most_nodes (nodes_of counts p) (nodes_of extents p) (omega arith)
    (ap (λ (c : Cost). c.whole) nodes) in
    let deep = same_test most_bodies (bodies_of counts p) (bodies_of extents p) (omega arith)
    (ap (λ (c : Cost). c.whole) bodies) in
    let long = same_test most_declared_bytes (declared_bytes counts p) (declared_bytes extents p) (omega arith)
    (ap (λ (c : Cost). c.whole) bytes) in
    λ i. passed p.place (many i) (deep i) (long i) (nodes i) (bodies i) (bytes i)

-- so are the nodes, where they are within their limit
pub nodes_told : (counts extents : Extents) → AreCountsOf counts extents → (p : ProcedureTree) (n : ℕ)
    → (n ≤ most_nodes) × (n ≡ nodes_of counts p) → n ≡ nodes_of extents p
nodes_told counts extents same p n is =
    omega (arith, is.0, is.1, ap (λ (c : Cost). c.whole) (nodes_alike counts extents same p))

-- those that are passed by what an export costs
pub passed_is : (extents : Extents) (p : ProcedureTree) (costs : SizeCosts) → costs.nodes ≡ nodes_cost extents p
    → costs.bodies ≡ bodies_cost extents p → costs.declared_bytes ≡ bytes_cost extents p
    → passed_by p.place costs ≡ limits_passed extents p
passed_is extents p costs nodes bodies bytes =
    let many = ap (λ (c : Cost). nat_lt most_nodes c.whole) nodes
    ∙ counted_test most_nodes (nodes_of extents p) (omega arith) in
    let deep = ap (λ (c : Cost). nat_lt most_bodies c.whole) bodies
    ∙ counted_test most_bodies (bodies_of extents p) (omega arith) in
    let long = ap (λ (c : Cost). nat_lt most_declared_bytes c.whole) bytes
    ∙ counted_test most_declared_bytes (declared_bytes extents p) (omega arith) in
    λ i. passed p.place (many i) (deep i) (long i) (nodes i) (bodies i) (bytes i)
