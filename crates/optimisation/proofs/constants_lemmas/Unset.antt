-- Variables that statements leave alone: they hold what they held, and what is still known of them was known before.
use Rattle.std.proofs.Common.{◌≡◌, ℕ, zero, suc, ◌+◌, ◌-◌, ◌==◌, Bool, true, false, if◌then◌else◌, List, [], ◌∷◌}
use Rattle.std.proofs.Common.{inl, Option, None, Some, refl, ◌∙◌}
use Rattle.std.proofs.lemmas.Bool.{cond_both}
use Rattle.optimisation.specs.Below.{after, after_all, array, branch, counted, first, FlatVariable, holds, nothing, put}
use Rattle.optimisation.specs.Below.{repeats, set, StraightBlock, StraightState, StraightTree, take, TermTree}
use Rattle.optimisation.specs.Below.{iterations, value_at, with_variable}
use Rattle.inline.proofs.Face.{iterations_keep, with_value-other}
use Rattle.optimisation.specs.constants.private.Folding.{simple}
use Rattle.optimisation.specs.constants.private.Known.{WordFacts, without, all_short, behind, forgotten, forgotten_all}
use Rattle.optimisation.specs.constants.private.Known.{in_loop}
use Rattle.optimisation.specs.constants.private.Simplification.{at_iteration, knowing, knowing_all, set_to}
use Rattle.optimisation.proofs.constants_lemmas.CopyLemmas.{set_by}
use Rattle.optimisation.proofs.constants_lemmas.KnownLemmas.{Fact, Knows, IsAbout, IsFree, known_beside}
use Rattle.optimisation.proofs.constants_lemmas.KnownLemmas.{without_known, short_same}
use Rattle.optimisation.proofs.constants_lemmas.StatementRules.{branch_by, loop_by}

abbrev mutual
  -- a statement does not set what a fact is about
  pub IsUnset : Fact → StraightTree → Type 0
  IsUnset f (set within x value) = IsFree x f
  IsUnset f (array x size values) = IsFree x f
  IsUnset f (put within place x size index value) = IsFree x f
  IsUnset f (take control within condition) = Unit {0}
  IsUnset f (branch condition accepted otherwise) = AreUnset f accepted × AreUnset f otherwise
  IsUnset f (repeats x low high body) = IsFree x f × AreUnset f body

  pub AreUnset : Fact → StraightBlock → Type 0
  AreUnset f nothing = Unit {0}
  AreUnset f (first statement rest) = IsUnset f statement × AreUnset f rest

mutual
  -- what is not forgotten was known, and is about nothing that is set
  pub remembered : (words : WordFacts) (statement : StraightTree) (f : Fact) → Knows (forgotten words statement) f
      → Knows words f × IsUnset f statement
  remembered words (set within x value) f is = without_known words x f is
  remembered words (array x size values) f is = without_known words x f is
  remembered words (put within place x size index value) f is = without_known words x f is
  remembered words (take control within condition) f is = (is, tt)
  remembered words (branch condition accepted otherwise) f is =
      let behind = remembered_all (forgotten_all words accepted) otherwise f is in
      let front = remembered_all words accepted f behind.0 in
      (front.0, (front.1, behind.1))
  remembered words (repeats x low high body) f is =
      let inner = remembered_all (without words x) body f is in
      let here = without_known words x f inner.0 in
      (here.0, (here.1, inner.1))

  pub remembered_all : (words : WordFacts) (body : StraightBlock) (f : Fact) → Knows (forgotten_all words body) f
      → Knows words f × AreUnset f body
  remembered_all words nothing f is = (is, tt)
  remembered_all words (first statement rest) f is =
      let behind = remembered_all (forgotten words statement) rest f is in
      let here = remembered words statement f behind.0 in
      (here.0, (here.1, behind.1))

-- what is known where a variable has been set, and is not about it, was known before
known_before : (declared : List FlatVariable) (words : WordFacts) (within : Option ℕ) (x : ℕ) (e : TermTree) (f : Fact)
    → IsFree x f → Knows (set_to declared words within x e) f → Knows words f
known_before declared words (Some control) x e f free is = (without_known words x f is).0
known_before declared words None x e f free is =
    set_by declared words x e (λ g. IsFree x g → Knows words g) (λ c same apart. absurd (apart x refl refl))
    (λ y same may apart. absurd (apart x (inl refl) refl)) (λ g apart known also. known) f is free

pub within_loop : (words : WordFacts) (x : ℕ) (body : StraightBlock) (f : Fact) → Knows (in_loop words x body) f
    → Knows words f × (IsFree x f × AreUnset f body)
within_loop words x body f is =
    let found = remembered_all (without (all_short words) x) body f is in
    let here = without_known (all_short words) x f found.0 in
    (short_same words f here.0, (here.1, found.1))

-- nothing is learned of what is not set
module _ (unroll_limits : List ℕ) (declared : List FlatVariable) (f : Fact) where
  -- in so many iterations of a loop
  unlearned_iterations : (x : ℕ) (body : StraightBlock) → IsFree x f
      → ((w : WordFacts) → Knows (knowing_all unroll_limits declared w body) f → Knows w f) → (n i : ℕ)
      (words : WordFacts)
      → Knows (iterations n i (λ j w. knowing_all unroll_limits declared (at_iteration x j w) body) words) f
      → Knows words f
  unlearned_iterations x body free inside zero i words is = is
  unlearned_iterations x body free inside (suc n) i words is =
      known_beside words x _ f free (inside (at_iteration x i words)
      (unlearned_iterations x body free inside n (i + 1)
      (knowing_all unroll_limits declared (at_iteration x i words) body) is))

  mutual
    unlearned : (words : WordFacts) (statement : StraightTree) → IsUnset f statement
        → Knows (knowing unroll_limits declared words statement) f → Knows words f
    unlearned words (set within x value) unset = known_before declared words within x (simple words value) f unset
    unlearned words (array x size values) unset = λ is. (without_known words x f is).0
    unlearned words (put within place x size index value) unset = λ is. (without_known words x f is).0
    unlearned words (take control within condition) unset = λ is. is
    unlearned words (branch condition accepted otherwise) unset =
        let second = behind (knowing_all unroll_limits declared words accepted) accepted in
        branch_by unroll_limits declared
        (λ code after. Knows after f → Knows words f) words condition accepted otherwise
        (λ decides. unlearned_all words accepted unset.0) (λ decides. unlearned_all words otherwise unset.1)
        (λ is. unlearned_all words accepted unset.0
        (remembered_all (knowing_all unroll_limits declared words accepted) accepted f
        (unlearned_all second otherwise unset.1
        (remembered_all (knowing_all unroll_limits declared second otherwise) otherwise f is).0)).0)
    unlearned words (repeats x low high body) unset =
        let inside = in_loop words x body in
        loop_by unroll_limits declared (λ code after. Knows after f → Knows words f) words x low high body
        (λ a b low_is high_is. unlearned_iterations x body unset.0 (λ w. unlearned_all w body unset.1)
        (b.value - a.value) a.value words)
        (λ is. (within_loop words x body f (unlearned_all inside body unset.1
        (remembered_all (knowing_all unroll_limits declared inside body) body f is).0)).0)

    unlearned_all : (words : WordFacts) (body : StraightBlock) → AreUnset f body
        → Knows (knowing_all unroll_limits declared words body) f → Knows words f
    unlearned_all words nothing unset is = is
    unlearned_all words (first statement rest) unset is =
        unlearned words statement unset.0
        (unlearned_all (knowing unroll_limits declared words statement) rest unset.1 is)

-- what is known behind an arm or an iteration
pub behind_part : (unroll_limits : List ℕ) (declared : List FlatVariable) (words : WordFacts) (body : StraightBlock)
    (f : Fact)
    → Knows (behind (knowing_all unroll_limits declared words body) body) f → Knows words f × AreUnset f body
behind_part unroll_limits declared words body f is =
    let found = remembered_all (knowing_all unroll_limits declared words body) body f is in
    (unlearned_all unroll_limits declared f words body found.1 found.0, found.1)

-- Runs.

beside_under : (s : StraightState) (b : Bool) (x y : ℕ) (v : List ℕ) → (y ≡ x → ⊥)
    → (if b then with_variable s x v else s).variables y ≡ s.variables y
beside_under s true x y v apart = with_value-other s.variables x y v apart
beside_under s false x y v apart = refl

mutual
  -- a variable that a fact is about, and that is not set, holds what it held
  pub left_alone : (statement : StraightTree) (f : Fact) → IsUnset f statement → (y : ℕ) → IsAbout y f
      → (s : StraightState) → (after s statement).variables y ≡ s.variables y
  left_alone (set within x value) f unset y about s = beside_under s (holds s within) x y _ (unset y about)
  left_alone (array x size values) f unset y about s = with_value-other s.variables x y _ (unset y about)
  left_alone (put within place x size index value) f unset y about s =
      beside_under s (holds s within) x y _ (unset y about)
  left_alone (take control within condition) f unset y about s = refl
  left_alone (branch condition accepted otherwise) f unset y about s =
      cond_both (value_at s condition == 0) (after_all s otherwise) (after_all s accepted)
      (λ (t : StraightState). t.variables y ≡ s.variables y) (λ is. left_alone_all otherwise f unset.1 y about s)
      (λ is. left_alone_all accepted f unset.0 y about s)
  left_alone (repeats x low high body) f unset y about s =
      iterations_keep (λ (t : StraightState). t.variables y ≡ s.variables y) (λ i t. after_all (counted x i t) body)
      (value_at s high)
      (λ i t below so_far. left_alone_all body f unset.1 y about (counted x i t)
      ∙ (with_value-other t.variables x y (i ∷ []) (unset.0 y about) ∙ so_far))
      (value_at s high - value_at s low) (value_at s low) s refl refl

  pub left_alone_all : (body : StraightBlock) (f : Fact) → AreUnset f body → (y : ℕ) → IsAbout y f
      → (s : StraightState) → (after_all s body).variables y ≡ s.variables y
  left_alone_all nothing f unset y about s = refl
  left_alone_all (first statement rest) f unset y about s =
      left_alone_all rest f unset.1 y about (after s statement) ∙ left_alone statement f unset.0 y about s
