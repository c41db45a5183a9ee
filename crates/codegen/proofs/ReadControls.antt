-- What a program reads is kept in its optimised code: each place that reads a control value gives it some weight.
use Rattle.std.proofs.Common.{◌≡◌, ◌≢◌, ⊎_elim, ℕ, ◌+◌, ◌<◌, ◌≤◌, ◌==◌, Bool, false, List, [], length, map, Option}
use Rattle.std.proofs.Common.{None, Some, slice_get, slice_index, min, ne_eqb, refl, ap, subst, ◌∙◌, arith, unwrap_or}
use Rattle.std.proofs.Common.{replicate}
use Rattle.std.proofs.lemmas.List.{get_or-set_other, get_or-set_same}
use Rattle.std.proofs.lemmas.Option.{slice_get-map, slice_get-get_or, slice_get_past}
use Rattle.branch_removal.specs.Straight as straight
use Rattle.codegen.proofs.Language.{StraightBlock, StraightProgram, StraightTree, first, nothing}
use Rattle.codegen.proofs.Logic.{cases_eq, cases_lt, option_map}
use Rattle.codegen.proofs.Machine.{AllReadKept, IsKeptWithin, ReadsKept}
use Rattle.codegen.specs.private.Reads.{unread_of}
use Rattle.codegen.specs.Below.{greatest_weight, used, weight_inside}
use Rattle.codegen.specs.private.Uses.{control_weights_of, controls_read_by, controls_read_by_all, used_within}
use Rattle.codegen.proofs.WeightLengths.{all_read_keep, used_length}

-- a control value has some weight
abbrev Weighs : List ℕ → ℕ → Type 0
Weighs weights c = 0 < slice_index weights c

-- a use gives it some, and takes none away

used_weighs : (n x : ℕ) (weights : List ℕ) → 0 < n → x < length weights → Weighs (used n x weights) x
used_weighs n x weights some below =
    omega (arith, some, get_or-set_same weights x (min (slice_index weights x + n) greatest_weight) 0 below)

used_stays : (n x c : ℕ) (weights : List ℕ) → c < length weights → Weighs weights c → Weighs (used n x weights) c
used_stays n x c weights below weighs =
    let more = min (slice_index weights c + n) greatest_weight in
    ⊎_elim
    (λ (same : c ≡ x).
    subst (λ y. Weighs (used n y weights) c) same (omega (arith, weighs, get_or-set_same weights c more 0 below)))
    (λ (apart : c ≢ x).
    omega (arith, weighs, get_or-set_other weights x c (min (slice_index weights x + n) greatest_weight) 0 apart))
    (cases_eq c x)

-- so what has weight, where it has a number at all, has weight behind each use
abbrev HasWeight : ℕ → List ℕ → Type 0
HasWeight c weights = c < length weights → Weighs weights c

weight_kept : (c n x : ℕ) (weights : List ℕ) → HasWeight c weights → HasWeight c (used n x weights)
weight_kept c n x weights has below =
    let same = used_length n x weights in
    let inside : c < length weights = omega (arith, below, same) in
    used_stays n x c weights inside (has inside)

-- So what is read is kept, where what has some weight in the end is, and what has no number here is.
module _ (unread : List Bool) where
  abbrev IsKept : ℕ → Type 0
  IsKept c = unwrap_or (slice_get unread c) false ≡ false

  -- what has weight among these is kept
  abbrev Keeps : List ℕ → Type 0
  Keeps weights = (c : ℕ) → HasWeight c weights → IsKept c

  within_here : (n : ℕ) (within : Option ℕ) (weights : List ℕ) → 0 < n → Keeps (used_within n within weights)
      → IsKeptWithin unread within
  within_here n None weights some keeps = tt
  within_here n (Some x) weights some keeps =
      keeps x (λ below. let same = used_length n x weights in
      used_weighs n x weights some (omega (arith, below, same)))

  mutual
    kept : (n : ℕ) (s : StraightTree) (weights : List ℕ) → 0 < n → Keeps (controls_read_by n s weights)
        → ReadsKept unread s
    kept n (straight.set within x value) weights some keeps = within_here n within weights some keeps
    kept n (straight.array x size values) weights some keeps = tt
    kept n (straight.put within place x size index value) weights some keeps =
        within_here n within weights some keeps
    kept n (straight.take control within condition) weights some keeps = within_here n within weights some keeps
    kept n (straight.branch condition accepted otherwise) weights some keeps =
        let between = controls_read_by_all n accepted weights in (
          all_kept n accepted weights some
              (λ c has. keeps c (all_read_keep (HasWeight c) (weight_kept c) n otherwise {weights = between} has)),
          all_kept n otherwise between some keeps,
        )
    kept n (straight.repeats x low high body) weights some keeps =
        all_kept (weight_inside n) body weights (omega (arith, some)) keeps

    pub all_kept : (n : ℕ) (b : StraightBlock) (weights : List ℕ) → 0 < n → Keeps (controls_read_by_all n b weights)
        → AllReadKept unread b
    all_kept n nothing weights some keeps = tt
    all_kept n (first s rest) weights some keeps =
        let between = controls_read_by n s weights in (
          kept n s weights some
              (λ c has. keeps c (all_read_keep (HasWeight c) (weight_kept c) n rest {weights = between} has)),
          all_kept n rest between some keeps,
        )

-- what has weight in the end is not among the unread
weighed : (weights : List ℕ) → Keeps (map (λ w. w == 0) weights) weights
weighed weights c weighs =
    ap (λ (o : Option Bool). unwrap_or o false) (slice_get-map (λ w. w == 0) weights c)
    ∙ ⊎_elim
    (λ (below : c < length weights).
    let some = weighs below in
    ap (λ (o : Option ℕ). unwrap_or (option_map (λ w. w == 0) o) false) (slice_get-get_or weights c 0 below)
    ∙ ne_eqb (slice_index weights c) 0 (λ e. omega (arith, some, e)))
    (λ (past : length weights ≤ c).
    ap (λ (o : Option ℕ). unwrap_or (option_map (λ w. w == 0) o) false) (slice_get_past weights c past))
    (cases_lt c (length weights))

pub all_read_kept : (p : StraightProgram) → AllReadKept (unread_of p) p.body
all_read_kept p =
    all_kept (unread_of p) 1 p.body (replicate p.controls 0) (omega arith) (weighed (control_weights_of p))

-- plain code keeps every control value
pub plain_reads : (b : StraightBlock) → AllReadKept [] b
plain_reads b = all_kept [] 1 b [] (omega arith) (λ c has. refl)
