-- A block and another behind it: what is known of both is known of the two.
use Rattle.std.proofs.Common.{◌≡◌, ℕ, ◌+◌, ◌<◌, ◌≤◌, List, refl, ◌∙◌, subst, arith}
use Rattle.inline.specs.declared.flat.FlatVariable.{FlatVariable}
use Rattle.inline.specs.Flat.{FlatTree, declare, array, hold, FlatBlock, nothing, first, chain}
use Rattle.inline.specs.FlatSize.{body_nodes}
use Rattle.inline.specs.FlatTyping.{Types, with_type, AreTyped, types_after, types_after_all, declarations_in}
use Rattle.inline.specs.FlatTyping.{declarations_in_all, IsNumbered, AreNumbered}
use Rattle.inline.specs.Below.{Label}
use Rattle.inline.proofs.Linked.{with_type-other}

pub chain-types : (types : Types) (a b : FlatBlock)
    → types_after_all types (chain a b) ≡ types_after_all (types_after_all types a) b
chain-types types nothing b = refl
chain-types types (first s rest) b = chain-types (types_after types s) rest b

pub chain-typed : (all : List FlatVariable) (types : Types) (control : Label) (a b : FlatBlock)
    → AreTyped all types control a → AreTyped all (types_after_all types a) control b
    → AreTyped all types control (chain a b)
chain-typed all types control nothing b one other = other
chain-typed all types control (first s rest) b one other =
    (one.0, chain-typed all (types_after types s) control rest b one.1 other)

pub chain-declarations : (a b : FlatBlock)
    → declarations_in_all (chain a b) ≡ declarations_in_all a + declarations_in_all b
chain-declarations nothing b = omega arith
chain-declarations (first s rest) b = omega (arith, chain-declarations rest b)

pub chain-numbered : (n : ℕ) (a b : FlatBlock) → AreNumbered n a → AreNumbered (n + declarations_in_all a) b
    → AreNumbered n (chain a b)
chain-numbered n nothing b one other =
    let same : n + 0 ≡ n = omega arith in
    subst (λ k. AreNumbered k b) same other
chain-numbered n (first s rest) b one other =
    let same : n + (declarations_in s + declarations_in_all rest)
    ≡ (n + declarations_in s) + declarations_in_all rest = omega arith in
    (one.0, chain-numbered (n + declarations_in s) rest b one.1 (subst (λ k. AreNumbered k b) same other))

pub chain-nodes : (a b : FlatBlock) → body_nodes (chain a b) ≡ body_nodes a + body_nodes b
chain-nodes nothing b = omega arith
chain-nodes (first s rest) b = omega (arith, chain-nodes rest b)

-- A block that is numbered from n on declares its variables one after another: what each declaration keeps, as the
-- next number goes on, the block keeps.
module _ (P : ℕ → Types → Type 0)
    (declares : (n : ℕ) (types : Types) (d : FlatVariable) → P n types → P (n + 1) (with_type types n d))
    (goes_on : (n m : ℕ) (types : Types) → n ≤ m → P n types → P m types) where
  kept_by_one : (s : FlatTree) (n : ℕ) (types : Types) → IsNumbered n s → P n types
      → P (n + declarations_in s) (types_after types s)
  kept_by_one (declare x word mutable value) n types is kept = rw is (declares n types _ kept)
  kept_by_one (array x word mutable size values) n types is kept = rw is (declares n types _ kept)
  kept_by_one (hold x place size index) n types is kept = rw is (declares n types _ kept)
  kept_by_one other n types is kept = goes_on n (n + declarations_in other) types (omega arith) kept

  pub kept_by_numbered : (b : FlatBlock) (n : ℕ) (types : Types) → AreNumbered n b → P n types
      → P (n + declarations_in_all b) (types_after_all types b)
  kept_by_numbered nothing n types are kept = goes_on n (n + 0) types (omega arith) kept
  kept_by_numbered (first s rest) n types are kept =
      goes_on ((n + declarations_in s) + declarations_in_all rest) (n + (declarations_in s + declarations_in_all rest))
      (types_after_all (types_after types s) rest) (omega arith)
      (kept_by_numbered rest (n + declarations_in s) (types_after types s) are.1
      (kept_by_one s n types are.0 kept))

-- so the types of numbers below n stay
pub types_before : (types : Types) (n : ℕ) (b : FlatBlock) → AreNumbered n b → (x : ℕ) → x < n
    → (types_after_all types b).at x ≡ types.at x
types_before types n b are x low =
    (kept_by_numbered (λ k t. (x < k) × (t.at x ≡ types.at x))
    (λ k t d kept. (omega arith, with_type-other t k x d (λ q. omega arith) ∙ kept.1))
    (λ k m t more kept. (omega arith, kept.1)) b n types are (low, refl)).1
