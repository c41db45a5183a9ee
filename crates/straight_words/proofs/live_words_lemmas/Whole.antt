-- The program over the variables that words live in may stand in the place of the program.
use Rattle.std.proofs.Common.{◌≡◌, ℕ, zero, suc, ◌+◌, ◌<◌, ◌≤◌, ◌^◌, ◌==◌, ◌++◌, Bool, true, false, if◌then◌else◌, List, []}
use Rattle.std.proofs.Common.{◌∷◌, length, map, nat_le, Option, None, Some, option_map, slice_get, slice_index}
use Rattle.std.proofs.Common.{unwrap_or, refl, sym, ap, ap₂, ◌∙◌, arith}
use Rattle.std.proofs.lemmas.Bool.{and_parts, eqb-true, leb-true}
use Rattle.straight_words.specs.Below.{after_all, Arg, array_of, arrays_from, Boolean, declaration_of, declared_words}
use Rattle.straight_words.specs.Below.{elements_by, end_of, HasLength, is_mutable, IsReplaced, IsStraight, Kind}
use Rattle.straight_words.specs.Below.{outcome_of, Param, start, StraightBlock, StraightProgram, StraightState, TermTree}
use Rattle.straight_words.specs.Below.{words_by, WordType}
use Rattle.language.specs.declared.signature.Form.{Form}
use Rattle.language.specs.declared.signature.Form.TheVariants.{SingleWord, FixedArray, MutableArray}
use Rattle.language.specs.Size.{array_words}
use Rattle.std.specs.List.{AllByRecursion}
use Rattle.straight_words.specs.live_words.private.Held.{Table, Held, share, fitting, living, hold_own}
use Rattle.straight_words.specs.live_words.private.Terms.{renamed}
use Rattle.straight_words.specs.live_words.private.Sharing.{shared_all}
use Rattle.straight_words.specs.live_words.private.Whole.{kept, with_results, reading_any, at_end, at_start, over}
use Rattle.straight_words.specs.live_words.private.Whole.{nothing_live, all_fits, fits_by, keep_counts}
use Rattle.straight_words.proofs.live_words_lemmas.HeldLemmas.{Grows, grows_same, grows_on, grows_holding, alike_living}
use Rattle.straight_words.proofs.live_words_lemmas.HeldLemmas.{alike_first}
use Rattle.straight_words.proofs.live_words_lemmas.TermLemmas.{grows_reading}
use Rattle.straight_words.proofs.live_words_lemmas.Same.{AreReady, Alike, ready_before, reads, all_follow}
use Rattle.straight_words.proofs.over_lemmas.Values.{same_path, both, IsResultAlike}
use Rattle.straight_words.proofs.over_lemmas.Beside.{RunsBeside}
use Rattle.straight_words.proofs.over_lemmas.Whole.{is_replaced}

-- an array is a result where it may be changed
same_array : (form : Form) (one other : List ℕ) → (is_mutable form ≡ true → one ≡ other)
    → array_of form other ≡ array_of form one
same_array SingleWord one other same = refl
same_array FixedArray one other same = refl
same_array MutableArray one other same = ap (λ w. w ∷ []) (sym (same refl))

module _ (table : Table) where
  -- Results.

  grows_fitting : (held : Held) (fine : Bool) → Grows held (fitting held fine)
  grows_fitting held fine = record { fits = λ f. (and_parts held.fits fine f).0; holds = λ f v y is. is }

  grows_if : (b : Bool) (held : Held) (x : ℕ) → Grows held (if b then kept table held x else held)
  grows_if true held x = grows_on (grows_holding held (share table x) x) (grows_fitting _ (share table x == x))
  grows_if false held x = grows_same held

  grows_results : (x : ℕ) (ps : List Param) (held : Held) → Grows held (with_results table x ps held)
  grows_results x [] held = grows_same held
  grows_results x (p ∷ ps) held = grows_on (grows_if (is_mutable p.form) held x) (grows_results (x + 1) ps _)

  grows_any : (held : Held) (value : Option TermTree) → Grows held (reading_any table held value)
  grows_any held None = grows_same held
  grows_any held (Some value) = grows_reading table [] held value

  module _ {s u : StraightState} where
    kept_alike : (b : Bool) (held : Held) (x : ℕ) → b ≡ true
        → AreReady table (if b then kept table held x else held) s u → s.variables x ≡ u.variables x
    kept_alike true held x is ready =
        let parts = and_parts (living table held x).fits (share table x == x) ready.fits in
        alike_living table held x s.variables u.variables parts.0 ready.beside.variables
        ∙ ap u.variables (eqb-true (share table x) x parts.1)
    kept_alike false held x is ready = cc

    same_arrays : (x : ℕ) (ps : List Param) (held : Held) → AreReady table (with_results table x ps held) s u
        → arrays_from x ps u.variables ≡ arrays_from x ps s.variables
    same_arrays x [] held ready = refl
    same_arrays x (p ∷ ps) held ready =
        let next = if is_mutable p.form then kept table held x else held in
        let here = ready_before table (grows_results (x + 1) ps next) ready in
        ap₂ (λ (a b : List (List ℕ)). a ++ b)
        (same_array p.form (s.variables x) (u.variables x) (λ is. kept_alike (is_mutable p.form) held x is here))
        (same_arrays (x + 1) ps next ready)

    any_alike : (most : List ℕ) → ((x : ℕ) → slice_index most x ≤ slice_index most (share table x))
        → (held : Held) (value : Option TermTree) → AreReady table (reading_any table held value) s u
        → IsResultAlike most s.variables u.variables value (option_map (renamed table) value)
    any_alike most as_many held None ready = record { value = refl; path = same_path most }
    any_alike most as_many held (Some value) ready =
        let one = (reads table most as_many held value ready).0 in
        record { value = ap Some one.value; path = one.path }

  -- Where sharing fits.

  module _ (held : Held) (p : StraightProgram) (fits : (at_start table held p).fits ≡ true)
      (own : hold_own 0 (at_start table held p).holders ≡ true)
      (as_many : (x : ℕ) → slice_index p.iterations x ≤ slice_index p.iterations (share table x)) where
    abbrev code : StraightBlock
    code = shared_all table (at_end table held p) p.body

    module _ (args : List Arg) where
      runs : ((at_end table held p).fits ≡ true)
          × RunsBeside (Alike table (at_end table held p).holders) p.iterations (start p args)
          (start p args) p.body code
      runs =
          all_follow table p.iterations as_many (at_end table held p) p.body (record {
            fits = fits;
            beside = record {
              variables = alike_first table (at_start table held p).holders own (start p args).variables;
              controls = refl;
            };
          })

      last : AreReady table (at_end table held p) (after_all (start p args) p.body) (after_all (start p args) code)
      last = record { fits = runs.0; beside = runs.1.beside }

      result : IsResultAlike p.iterations (end_of p args) (end_of (over table held p) args) p.value
          (option_map (renamed table) p.value)
      result = any_alike p.iterations as_many (with_results table 0 p.parameters held) p.value last

      same_outcome : outcome_of (over table held p) args ≡ outcome_of p args
      same_outcome =
          let results = with_results table 0 p.parameters held in
          ap₂ (λ (r : Option ℕ) (a : List (List ℕ)). record { returned = r; arrays = a }) result.value
          (same_arrays 0 p.parameters held (ready_before table (grows_any results p.value) last))

    pub shared_replaced : IsStraight (over table held p) → IsReplaced p (over table held p)
    shared_replaced =
        is_replaced p p.declared code (option_map (renamed table) p.value)
        (λ args within. (same_outcome args, both p.iterations (runs args).1.path (result args).path))

-- as many iterations are counted for each word's variable as for its own at least
counts_kept : (most : List ℕ) (from : ℕ) (table : Table) → keep_counts most from table ≡ true → (i x : ℕ)
    → x ≡ from + i → slice_index most x ≤ slice_index most (unwrap_or (slice_get table i) x)
counts_kept most from [] keeps i x at = omega arith
counts_kept most from (v ∷ table) keeps zero x at =
    let parts = and_parts (nat_le (slice_index most from) (slice_index most v)) _ keeps in
    let here : x ≡ from = omega arith in
    rw here (leb-true (slice_index most from) (slice_index most v) parts.0)
counts_kept most from (v ∷ table) keeps (suc i) x at =
    let parts = and_parts (nat_le (slice_index most from) (slice_index most v)) _ keeps in
    counts_kept most (from + 1) table parts.1 i x (omega arith)

-- a program whose sharing fits
pub replaced : (table : Table) (p : StraightProgram) → fits_by table p ≡ true
    → IsStraight (over table (nothing_live p 0) p) → IsReplaced p (over table (nothing_live p 0) p)
replaced table p fit =
    let held = at_start table (nothing_live p 0) p in
    let parts = and_parts (all_fits held) (keep_counts p.iterations 0 table) fit in
    let both = and_parts held.fits (hold_own 0 held.holders) parts.0 in
    shared_replaced table (nothing_live p 0) p both.0 both.1
    (λ x. counts_kept p.iterations 0 table parts.1 x x (omega arith))

-- There are few parameters: each takes a word at least.

some_words : (kind : Kind) (n : ℕ) → 1 ≤ n → 1 ≤ array_words kind n
some_words Boolean n some = omega arith
some_words kind n some = omega arith

a_word : (form : Form) (word : WordType) (n : ℕ) → HasLength form n → 1 ≤ words_by word (elements_by form n)
a_word SingleWord word n is = omega arith
a_word FixedArray word n is = some_words word.kind n is.0
a_word MutableArray word n is = some_words word.kind n is.0

each_a_word : (ps : List Param) → AllByRecursion (λ (p : Param). HasLength p.form p.length) ps
    → length ps ≤ declared_words (map declaration_of ps)
each_a_word [] all = omega arith
each_a_word (p ∷ ps) all =
    omega (
      arith,
      a_word p.form (record { kind = p.kind; label = p.label }) p.length all.0,
      each_a_word ps all.1,
    )

pub few_parameters : (p : StraightProgram) → IsStraight p → length p.parameters < 2 ^ 32
few_parameters p straight =
    omega (arith, each_a_word p.parameters straight.bounded.lengths)
