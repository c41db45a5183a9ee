-- Two runs of one program, which sets each variable before it reads it, from states that agree on its parameters: what
-- was set is the same in both, and so is the path.
use Rattle.std.proofs.Common.{◌≡◌, ℕ, zero, suc, ◌+◌, ◌-◌, ◌<◌, ◌==◌, ◌&&◌, ◌++◌, Bool, true, false}
use Rattle.std.proofs.Common.{if◌then◌else◌, List, [], ◌∷◌, length, map, Option, None, Some, option_map, slice_index}
use Rattle.std.proofs.Common.{slice_set, inl, inr, refl, ap, ap₂, ◌∙◌, sym, arith}
use Rattle.std.proofs.lemmas.Bool.{and_parts, cases_eq}
use Rattle.inline.proofs.Face.{with_value-other, with_value-same}
use Rattle.variable_room.specs.Below.{after, after_all, array, array_of, arrays_from, binary, branch, convert}
use Rattle.variable_room.specs.Below.{counted, decided, element, elements, first, holds, nothing}
use Rattle.variable_room.specs.Below.{Param, Path, path_along, path_at, path_in, path_in_all, path_of_iterations}
use Rattle.variable_room.specs.Below.{path_of_result, prefix, put, repeats, rotate, select, set, StraightBlock}
use Rattle.variable_room.specs.Below.{StraightProgram, StraightState, StraightTree, take, TermTree, iterations, value_at}
use Rattle.variable_room.specs.Below.{value_in, Values, variable, with_variable}
use Rattle.variable_room.specs.set_first.Order.{Known, is_known, with_known, reads_known, all_read_known, may_keep}
use Rattle.variable_room.specs.set_first.Order.{reads_any_known, known_after, known_behind, sets_first, all_set_first}
use Rattle.variable_room.specs.set_first.Order.{known_parameters, program_sets_first}
use Rattle.variable_room.specs.set_first.Starts.{started, end_from, outcome_from, path_from, AgreeOnParameters}
use Rattle.variable_room.proofs.set_first_lemmas.KnownLemmas.{Grows, grows_with, grows_behind, known_beside}
use Rattle.variable_room.proofs.set_first_lemmas.KnownLemmas.{first_known, are_known}

-- what is known is the same
abbrev pub AreAlike : Known → Values → Values → Type 0
AreAlike known m n = (x : ℕ) → is_known known x ≡ true → m x ≡ n x

pub record AreBeside (known : Known) (s u : StraightState) : Type 0 where
  pub variables : AreAlike known s.variables u.variables
  pub controls : s.controls ≡ u.controls

less_known : {one other : Known} {s u : StraightState} → Grows one other → AreBeside other s u → AreBeside one s u
less_known grows beside = record {
  variables = λ x is. beside.variables x (grows x is);
  controls = beside.controls;
}

-- Expressions.

record IsSame (m n : Values) (e : TermTree) : Type 0 where
  value : value_in m e ≡ value_in n e
  path : path_in m e ≡ path_in n e

module _ (known : Known) {m n : Values} (alike : AreAlike known m n) where
  same : (e : TermTree) → reads_known known e ≡ true → IsSame m n e
  same (variable x) is = record { value = ap (λ numbers. slice_index numbers 0) (alike x is); path = refl }
  same (prefix operator width operand) is =
      let a = same operand is in record { value = rw a.value refl; path = a.path }
  same (binary place operator width left right) is =
      let parts = and_parts (reads_known known left) (reads_known known right) is in
      let a = same left parts.0 in
      let b = same right parts.1 in
      record { value = rw (a.value, b.value) refl; path = rw (a.value, b.value, a.path, b.path) refl }
  same (rotate width operand amount) is =
      let a = same operand is in record { value = rw a.value refl; path = a.path }
  same (convert kind operand) is = let a = same operand is in record { value = rw a.value refl; path = a.path }
  same (select condition accepted otherwise) is =
      let outer = and_parts (reads_known known condition && reads_known known accepted) (reads_known known otherwise)
      is in
      let inner = and_parts (reads_known known condition) (reads_known known accepted) outer.0 in
      let c = same condition inner.0 in
      let a = same accepted inner.1 in
      let b = same otherwise outer.1 in
      record { value = rw (c.value, a.value, b.value) refl; path = rw (c.path, a.path, b.path) refl }
  same (element place x size index) is =
      let parts = and_parts (is_known known x) (reads_known known index) is in
      let i = same index parts.1 in
      record { value = rw (alike x parts.0, i.value) refl; path = rw (i.value, i.path) refl }
  same e is = record { value = refl; path = refl }

  record AreSame (es : List TermTree) : Type 0 where
    values : map (value_in m) es ≡ map (value_in n) es
    path : path_in_all m es ≡ path_in_all n es

  all_same : (es : List TermTree) → all_read_known known es ≡ true → AreSame es
  all_same [] is = record { values = refl; path = refl }
  all_same (e ∷ es) is =
      let parts = and_parts (reads_known known e) (all_read_known known es) is in
      let a = same e parts.0 in
      let b = all_same es parts.1 in
      record { values = rw (a.value, b.values) refl; path = rw (a.path, b.path) refl }

  same_elements : (size : ℕ) (es : List TermTree) → AreSame es → elements m size es ≡ elements n size es
  same_elements size [] all = refl
  same_elements size (e ∷ es) all = all.values

-- Statements.

module _ {known : Known} {s u : StraightState} (beside : AreBeside known s u) where
  same_hold : (within : Option ℕ) → holds s within ≡ holds u within
  same_hold None = refl
  same_hold (Some control) = ap (λ (f : ℕ → Bool). f control) beside.controls

  -- a variable is set to the same
  one_set : (x : ℕ) (v : List ℕ) → AreBeside (with_known known x) (with_variable s x v) (with_variable u x v)
  one_set x v = record {
    variables = λ y is.
        elim (cases_eq y x) [
          | inl here ↦ rw here (with_value-same s.variables x v ∙ sym (with_value-same u.variables x v))
          | inr apart ↦
              with_value-other s.variables x y v apart
              ∙ (beside.variables y (known_beside known x y apart is)
              ∙ sym (with_value-other u.variables x y v apart))
        ];
    controls = beside.controls;
  }

  -- or kept, in both
  kept_or_set : (b : Bool) (x : ℕ) (v : List ℕ) → ((b ≡ false) → is_known known x ≡ true)
      → AreBeside (with_known known x) (if b then with_variable s x v else s)
      (if b then with_variable u x v else u)
  kept_or_set true x v may = one_set x v
  kept_or_set false x v may = record {
    variables = λ y is.
        elim (cases_eq y x) [
          | inl here ↦ beside.variables y (rw here (may refl))
          | inr apart ↦ beside.variables y (known_beside known x y apart is)
        ];
    controls = beside.controls;
  }

  keeping : (within : Option ℕ) (x : ℕ) → may_keep known within x ≡ true → holds s within ≡ false
      → is_known known x ≡ true
  keeping None x may not_held = cc
  keeping (Some control) x may not_held = may

either : (b : Bool) {known : Known} {s t u v : StraightState} → AreBeside known s u → AreBeside known t v
    → AreBeside known (if b then s else t) (if b then u else v)
either true one other = one
either false one other = other

either_path : (b : Bool) {p q p' q' : Path} → p ≡ p' → q ≡ q'
    → (if b then p else q) ≡ (if b then p' else q')
either_path true one other = one
either_path false one other = other

-- what a statement makes of two such states, and their paths
record Follows (known : Known) (s u t v : StraightState) (p q : Path) : Type 0 where
  beside : AreBeside known t v
  path : p ≡ q

iterations_follow : (known : Known) (f : ℕ → StraightState → StraightState) (p : ℕ → StraightState → Path)
    → ((i : ℕ) (s u : StraightState) → AreBeside known s u → AreBeside known (f i s) (f i u) × (p i s ≡ p i u))
    → (n i : ℕ) (s u : StraightState) → AreBeside known s u
    → AreBeside known (iterations n i f s) (iterations n i f u)
    × (path_of_iterations n i f p s ≡ path_of_iterations n i f p u)
iterations_follow known f p each zero i s u beside = (beside, refl)
iterations_follow known f p each (suc n) i s u beside =
    let here = each i s u beside in
    let rest = iterations_follow known f p each n (i + 1) (f i s) (f i u) here.0 in
    (rest.0, ap₂ (λ (a b : Path). a ++ b) here.1 rest.1)

mutual
  follows : (known : Known) (statement : StraightTree) {s u : StraightState} → sets_first known statement ≡ true
      → AreBeside known s u
      → AreBeside (known_after known statement) (after s statement) (after u statement)
      × (path_at s statement ≡ path_at u statement)
  follows known (set within x value) {s} {u} sets beside =
      let parts = and_parts (may_keep known within x) (reads_known known value) sets in
      let v = same known beside.variables value parts.1 in (
        rw (← v.value, ← same_hold beside within)
            (kept_or_set beside (holds s within) x (value_at s value ∷ [])
            (λ not_held. keeping beside within x parts.0 not_held)),
        v.path,
      )
  follows known (array x size values) {s} {u} sets beside =
      let all = all_same known beside.variables values sets in (
        rw (← same_elements known beside.variables size values all)
            (one_set beside x (elements s.variables size values)),
        all.path,
      )
  follows known (put within place x size index value) {s} {u} sets beside =
      let outer = and_parts (is_known known x && reads_known known index) (reads_known known value) sets in
      let inner = and_parts (is_known known x) (reads_known known index) outer.0 in
      let i = same known beside.variables index inner.1 in
      let v = same known beside.variables value outer.1 in (
        less_known (grows_with known x)
            (rw (← v.value, ← i.value, ← beside.variables x inner.0, ← same_hold beside within)
            (kept_or_set beside (holds s within) x (slice_set (s.variables x) (value_at s index) (value_at s value))
            (λ not_held. inner.0))),
        rw (v.path, i.path, i.value) refl,
      )
  follows known (take control within condition) {s} {u} sets beside =
      let c = same known beside.variables condition sets in (
        record {
          variables = beside.variables;
          controls = rw (c.value, same_hold beside within, beside.controls) refl;
        },
        c.path,
      )
  follows known (branch condition accepted otherwise) {s} {u} sets beside =
      let outer = and_parts (reads_known known condition && all_set_first known accepted)
      (all_set_first known otherwise) sets in
      let inner = and_parts (reads_known known condition) (all_set_first known accepted) outer.0 in
      let c = same known beside.variables condition inner.0 in
      let one = all_follow known accepted inner.1 beside in
      let other = all_follow known otherwise outer.1 beside in (
        rw (← c.value) (either (value_at s condition == 0) (less_known (grows_behind known otherwise) other.0)
            (less_known (grows_behind known accepted) one.0)),
        rw (← c.value, ← c.path) (ap (λ (p : Path). path_in s.variables condition ++ decided (value_at s condition) ∷ p)
            (either_path (value_at s condition == 0) other.1 one.1)),
      )
  follows known (repeats x low high body) {s} {u} sets beside =
      let outer = and_parts (reads_known known low && reads_known known high)
      (all_set_first (with_known known x) body) sets in
      let inner = and_parts (reads_known known low) (reads_known known high) outer.0 in
      let l = same known beside.variables low inner.0 in
      let h = same known beside.variables high inner.1 in
      let run = iterations_follow known (λ i t. after_all (counted x i t) body)
      (λ i t. path_along (counted x i t) body)
      (λ i t v at.
      let one = all_follow (with_known known x) body outer.1 (one_set at x (i ∷ [])) in
      (less_known (λ y is. grows_behind (with_known known x) body y (grows_with known x y is)) one.0, one.1))
      (value_at s high - value_at s low) (value_at s low) s u beside in
      (rw (← l.value, ← h.value) run.0, rw (← l.value, ← h.value, ← l.path, ← h.path, ← run.1) refl)

  all_follow : (known : Known) (body : StraightBlock) {s u : StraightState} → all_set_first known body ≡ true
      → AreBeside known s u
      → AreBeside (known_behind known body) (after_all s body) (after_all u body)
      × (path_along s body ≡ path_along u body)
  all_follow known nothing sets beside = (beside, refl)
  all_follow known (first statement rest) {s} {u} sets beside =
      let parts = and_parts (sets_first known statement) (all_set_first (known_after known statement) rest) sets in
      let one = follows known statement parts.0 beside in
      let others = all_follow (known_after known statement) rest parts.1 one.0 in
      (others.0, ap₂ (λ (a b : Path). a ++ b) one.1 others.1)

-- Programs.

same_arrays : (x : ℕ) (ps : List Param) (m n : Values) → ((y : ℕ) → y < x + length ps → m y ≡ n y)
    → arrays_from x ps m ≡ arrays_from x ps n
same_arrays x [] m n alike = refl
same_arrays x (p ∷ ps) m n alike =
    ap₂ (λ (a b : List (List ℕ)). a ++ b) (ap (array_of p.form) (alike x (omega arith)))
    (same_arrays (x + 1) ps m n (λ y less. alike y (omega (arith, less))))

same_result : (known : Known) {m n : Values} → AreAlike known m n → (value : Option TermTree)
    → reads_any_known known value ≡ true
    → (option_map (value_in m) value ≡ option_map (value_in n) value)
    × (path_of_result m value ≡ path_of_result n value)
same_result known alike None is = (refl, refl)
same_result known alike (Some e) is = let a = same known alike e is in (ap Some a.value, a.path)

pub only_parameters : (p : StraightProgram) (one other : Values) → program_sets_first p ≡ true
    → AgreeOnParameters p one other
    → (outcome_from p one ≡ outcome_from p other) × (path_from p one ≡ path_from p other)
only_parameters p one other sets agree =
    let known = known_parameters p in
    let parts = and_parts (all_set_first known p.body) (reads_any_known (known_behind known p.body) p.value) sets in
    let n = length p.parameters in
    let m = length p.declared - n in
    let run = all_follow known p.body {s = started one} {u = started other} parts.0 (record {
      variables = λ x is. agree x (first_known n m x is);
      controls = refl;
    }) in
    let last = same_result (known_behind known p.body) run.0.variables p.value parts.1 in (
      ap₂ (λ (r : Option ℕ) (a : List (List ℕ)). record { returned = r; arrays = a }) last.0
          (same_arrays 0 p.parameters (end_from p one) (end_from p other)
          (λ y less. run.0.variables y (grows_behind known p.body y (are_known n m y (omega (arith, less)))))),
      ap₂ (λ (a b : Path). a ++ b) run.1 last.1,
    )
