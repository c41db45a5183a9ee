-- What is known after a statement holds there in a loose run, variables that are not `mut` keep their values, and the
-- path has no fault where the statement has no violation.
use Rattle.std.proofs.Common.{◌≡◌, ◌≢◌, ◌⊎◌, inl, inr, ℕ, suc, ◌+◌, ◌-◌, ◌<◌, ◌≤◌, ◌==◌, ◌||◌, nat_lt, Bool, true}
use Rattle.std.proofs.Common.{false, not, if◌then◌else◌, List, [], ◌∷◌, ◌++◌, length, All, Some, slice_set}
use Rattle.std.proofs.Common.{slice_index, refl, sym, ap, ◌∙◌, subst, arith, ◌^◌}
use Rattle.std.proofs.lemmas.Bool.{cases_Bool}
use Rattle.std.proofs.lemmas.Bool.Decides.{nat_tests}
use Rattle.std.proofs.lemmas.List.{length-set, length-replicate}
use Rattle.std.proofs.lemmas.List.Elements.{All-nil, All-cons, All-set, All-replicate}
use Rattle.std.proofs.lemmas.Option.{same_Some}
use Rattle.intervals.specs.Below.{AllSuit, AreFine, AreTyped, array_as, bounded, branch, counter_type, first, FlatBlock}
use Rattle.intervals.specs.Below.{FlatTree, FlatVariable, HasCount, indexed, Interval, is_secret, IsHeld, IsNew}
use Rattle.intervals.specs.Below.{IsTyped, IsWithinKind, joined, Label, loop, nothing, Path, Profile, Public, Secret}
use Rattle.intervals.specs.Below.{TermSuits, TermTree, Types, types_after, types_after_all, types_of, Values, with_type}
use Rattle.intervals.specs.Below.{with_value, word_as, WordType}
use Rattle.intervals.proofs.Below.{some_bit, fine_both, fits_assigned, fits_declared, one_held, with_type-same}
use Rattle.intervals.proofs.Below.{with_type-other, with_value-same, with_value-other}
use Rattle.intervals.proofs.Below.{new_number, type_kept, types_kept}
use Rattle.intervals.specs.Intervals.{Bounds, known, with_bound, between, interval}
use Rattle.intervals.specs.Loose.{LooselyComes, LooselyComeAll, none_left, one_more, made, LooselyLeads, declares}
use Rattle.intervals.specs.Loose.{declares_array, assigns, puts, holds as holding, skips, chooses, repeats, Iterations}
use Rattle.intervals.specs.Loose.{no_iteration, an_iteration, LooselyLeadAll, ends, goes_on}
use Rattle.intervals.specs.Narrowing.{where_true, where_false}
use Rattle.intervals.specs.Ranges.{bounds_after, bounds_after_all, counter_interval, in_loop, index_violations}
use Rattle.intervals.specs.Ranges.{is_steady, most_iterations, term_violations, terms_violations, violations}
use Rattle.intervals.specs.Ranges.{violations_all}
use Rattle.intervals.proofs.LooseIntervals.{IsIn}
use Rattle.intervals.proofs.LooseNarrowing.{at_number, holds_where_false, holds_where_true}
use Rattle.intervals.proofs.LooseTerms.{BoundsHold, KeepsItsValue, loose_below, loose_fine, loose_fits, loose_in}
use Rattle.intervals.proofs.LooseTerms.{none_in}
use Rattle.intervals.proofs.LooseTypes.{IsListed, listed_beside}

is_zero : (v : ℕ) → (v == 0) ≡ true → v ≡ 0
is_zero v h = grind (arith, nat_tests)

not_zero : (v : ℕ) → (v == 0) ≡ false → v ≢ 0
not_zero v h is = grind (arith, nat_tests)

-- a steady variable is public and not `mut`
steady_parts : (label : Label) (mutable : Bool) → not (is_secret label || mutable) ≡ true
    → (label ≡ Public) × (mutable ≡ false)
steady_parts Public false h = (refl, refl)
steady_parts Public true h = absurd cc
steady_parts Secret mutable h = absurd cc

-- what may be assigned to is none of what keeps its value
not_mutable : (types : Types) (x y : ℕ) (d : FlatVariable) (word : WordType) → types.at x ≡ Some d → d.mutable ≡ true
    → types.at y ≡ Some (word_as word false) → y ≡ x → ⊥
not_mutable types x y d word known may steady same =
    let is = same_Some d (word_as word false) (sym known ∙ (ap types.at (sym same) ∙ steady)) in
    let other = ap (λ (e : FlatVariable). e.mutable) is in absurd cc

-- a number of a counter
counter_in : (low high : Interval) (i : ℕ) → low.low ≤ i → i < high.high → IsIn (counter_interval low high) i
counter_in low high i least most = by (nat_lt low.low high.high) refl
  where
    by : (b : Bool) → nat_lt low.low high.high ≡ b
        → IsIn (if b then between low.low (high.high - 1) else between low.low low.low) i
    by true e = (least, omega (arith, most))
    by false e = (least, grind (arith, nat_tests, e, least, most))

-- the iterations of a statement's loops are those that are counted
module _ (declared : List FlatVariable) (iterations : List ℕ) where
  abbrev mutual
    pub AreCounted : Bounds → FlatTree → Type 0
    AreCounted bounds (branch label condition accepted otherwise) =
        AllCounted (where_true declared bounds label condition) accepted
        × AllCounted (where_false declared bounds label condition) otherwise
    AreCounted bounds (loop x low high body) =
        (most_iterations (interval declared bounds low) (interval declared bounds high) ≡ slice_index iterations x)
        × AllCounted (in_loop declared bounds x low high) body
    AreCounted bounds other = Unit {0}

    pub AllCounted : Bounds → FlatBlock → Type 0
    AllCounted bounds nothing = Unit {0}
    AllCounted bounds (first s rest) = AreCounted bounds s × AllCounted (bounds_after declared bounds s) rest

  -- what a loose run leads to
  pub record IsLooseEnd (types after : Types) (bounds : Bounds) (m t : Values) (path : Path) : Type 0 where
    pub holds : BoundsHold declared after bounds t
    pub same : (x : ℕ) (word : WordType) → types.at x ≡ Some (word_as word false) → t x ≡ m x
    pub fine : AreFine iterations path

  -- at the end of an arm or an iteration all is known that was known before
  back : (types after : Types) {before inside : Bounds} {m t : Values} {path : Path}
      → BoundsHold declared types before m
      → IsLooseEnd types after inside m t path
      → ((x : ℕ) (d : FlatVariable) → types.at x ≡ Some d → after.at x ≡ Some d)
      → IsLooseEnd types types before m t path
  back types after holds done kept = record {
    holds = record {
      fits = λ x d is. done.holds.fits x d (kept x d is);
      kept = λ x i is.
          let old = holds.kept x i is in
          record {
            word = old.word;
            typed = old.typed;
            public = old.public;
            within = rw (sym (done.same x old.word old.typed)) at old.within;
          };
      listed = holds.listed;
    };
    same = done.same;
    fine = done.fine;
  }

  -- also behind a condition
  after_both : {types after : Types} {bounds : Bounds} {m t : Values} (p q : Path) → AreFine iterations p
      → IsLooseEnd types after bounds m t q → IsLooseEnd types after bounds m t (p ++ q)
  after_both p q fine done = record {
    holds = done.holds;
    same = done.same;
    fine = fine_both iterations p q fine
        done.fine;
  }

  module _ (types : Types) (bounds : Bounds) (m : Values) (holds : BoundsHold declared types bounds m) where
    -- what suits is within the kind that is wanted
    suited : {profile : Profile} {e : TermTree} {v : ℕ} {p : Path} (word : WordType) → TermSuits types word e
        → LooselyComes (types_of profile declared) m e v p → IsWithinKind word.kind v
    suited {v = v} word suits c =
        rw suits.kind at (loose_fits declared types bounds m holds c suits.has_type)

    -- a new variable
    module _ (x : ℕ) (d : FlatVariable) (numbers : List ℕ) (new : IsNew declared types x d)
        (held : IsHeld d numbers) where
      apart : (y : ℕ) (e : FlatVariable) → types.at y ≡ Some e → y ≡ x → ⊥
      apart y e is = new_number types x y e new.new is

      -- what was known of another one
      kept_other : (y : ℕ) (i : Interval) → known bounds y ≡ Some i
          → KeepsItsValue (with_type types x d) (with_value m x numbers) y i
      kept_other y i is =
          let old = holds.kept y i is in
          let other = apart y (word_as old.word false) old.typed in
          record {
            word = old.word;
            typed = with_type-other types x y d other ∙ old.typed;
            public = old.public;
            within = rw (sym (with_value-other m x y numbers other)) at old.within;
          }

      listed_too : IsListed declared (with_type types x d)
      listed_too = listed_beside declared types x d new.listed holds.listed

      new_holds : BoundsHold declared (with_type types x d) bounds (with_value m x numbers)
      new_holds = record {
        fits = fits_declared types m x numbers d held holds.fits;
        kept = kept_other;
        listed = listed_too;
      }

      new_same : (y : ℕ) (word : WordType) → types.at y ≡ Some (word_as word false) → with_value m x numbers y ≡ m y
      new_same y word is = with_value-other m x y numbers (apart y (word_as word false) is)

      -- and its interval is known where it keeps its value
      known_holds : (word : WordType) (i : Interval) → d ≡ word_as word false → word.label ≡ Public
          → IsIn i (slice_index numbers 0)
          → BoundsHold declared (with_type types x d) (with_bound bounds x i) (with_value m x numbers)
      known_holds word i is public within =
          record { fits = new_holds.fits; kept = λ y j h. at y j (at_number bounds x i y j h); listed = listed_too }
        where
          at : (y : ℕ) (j : Interval) → ((y ≡ x) × (i ≡ j)) ⊎ (known bounds y ≡ Some j)
              → KeepsItsValue (with_type types x d) (with_value m x numbers) y j
          at y j (inr old) = kept_other y j old
          at y j (inl (same, k)) =
              subst (λ z. KeepsItsValue (with_type types x d) (with_value m x numbers) z j) (sym same)
              (record {
                word = word;
                typed = with_type-same types x d ∙ ap Some is;
                public = public;
                within = subst (λ l. IsIn l (slice_index (with_value m x numbers x) 0)) k
                    (subst (λ v. IsIn i (slice_index v 0)) (sym (with_value-same m x numbers)) within);
              })

    -- a variable that may be assigned to
    module _ (x : ℕ) (d : FlatVariable) (numbers : List ℕ) (there : types.at x ≡ Some d) (may : d.mutable ≡ true)
        (held : IsHeld d numbers) where
      assigned_same : (y : ℕ) (word : WordType) → types.at y ≡ Some (word_as word false)
          → with_value m x numbers y ≡ m y
      assigned_same y word is = with_value-other m x y numbers (not_mutable types x y d word there may is)

      assigned_holds : BoundsHold declared types bounds (with_value m x numbers)
      assigned_holds = record {
        fits = fits_assigned types m x numbers d there held holds.fits;
        kept = λ y i is.
            let old = holds.kept y i is in
            record {
              word = old.word;
              typed = old.typed;
              public = old.public;
              within = rw (sym (assigned_same y old.word old.typed)) at old.within;
            };
        listed = holds.listed;
      }

    -- the elements of a new array
    all_fit : (word : WordType) {profile : Profile} {es : List TermTree} {vs : List ℕ} {p : Path}
        → LooselyComeAll (types_of profile declared) m es vs p → AllSuit types word es → All (IsWithinKind word.kind) vs
    all_fit word none_left suit = All-nil (IsWithinKind word.kind)
    all_fit word (one_more {v = v} {vs = vs} c cs) suit =
        All-cons (IsWithinKind word.kind) v vs (suited word suit.0 c) (all_fit word cs suit.1)

    as_many : {profile : Profile} {es : List TermTree} {vs : List ℕ} {p : Path}
        → LooselyComeAll (types_of profile declared) m es vs p → length vs ≡ length es
    as_many none_left = refl
    as_many (one_more c cs) = ap suc (as_many cs)

    made_held : (word : WordType) (mutable : Bool) (size : ℕ) {profile : Profile} {es : List TermTree} {vs : List ℕ}
        {p : Path} → LooselyComeAll (types_of profile declared) m es vs p → AllSuit types word es → HasCount size es
        → IsHeld (array_as word mutable size) (made size vs)
    made_held word mutable size none_left suit count =
        record {
          count = length-replicate size 0;
          within =
              All-replicate (IsWithinKind word.kind) size 0 (some_bit word.kind);
        }
    made_held word mutable size (one_more c cs) suit count =
        record { count = as_many (one_more c cs) ∙ count; within = all_fit word (one_more c cs) suit }

    all_fine : (word : WordType) {profile : Profile} {es : List TermTree} {vs : List ℕ} {p : Path}
        → LooselyComeAll (types_of profile declared) m es vs p → AllSuit types word es
        → terms_violations declared bounds es ≡ [] → AreFine iterations p
    all_fine word none_left suit none = tt
    all_fine word (one_more {e = e} {es = es} {p = p} {q = q} c cs) suit none =
        let parts = none_in (term_violations declared bounds e) (terms_violations declared bounds es) none in
        fine_both iterations p q (loose_fine declared types bounds m holds iterations c suit.0.has_type parts.0)
        (all_fine word cs suit.1 parts.1)

    -- a declared word
    declared_done : (x : ℕ) (word : WordType) (mutable : Bool) {profile : Profile} {e : TermTree} {v : ℕ} {p : Path}
        → IsNew declared types x (word_as word mutable) → TermSuits types word e
        → LooselyComes (types_of profile declared) m e v p
        → (b : Bool) → is_steady word mutable ≡ b
        → BoundsHold declared (with_type types x (word_as word mutable)) (if b
        then with_bound bounds x (interval declared bounds e) else bounds) (with_value m x (v ∷ []))
    declared_done x word mutable {e = e} {v = v} new suits c true steady =
        let parts = steady_parts word.label mutable steady in
        known_holds x (word_as word mutable) (v ∷ []) new (one_held word mutable v (suited word suits c)) word
        (interval declared bounds e) (ap (word_as word) parts.1) parts.0
        (loose_in declared types bounds m holds c suits.has_type (suits.label parts.0))
    declared_done x word mutable {v = v} new suits c false steady =
        new_holds x (word_as word mutable) (v ∷ []) new (one_held word mutable v (suited word suits c))

  -- Runs.

  module _ (profile : Profile) where
    mutual
      pub loose_done : {types : Types} {bounds : Bounds} (control : Label) {m t : Values} {s : FlatTree} {path : Path}
          → LooselyLeads (types_of profile declared) m s t path → IsTyped declared types control s
          → BoundsHold declared types bounds m → violations declared bounds s ≡ [] → AreCounted bounds s
          → IsLooseEnd types (types_after types s) (bounds_after declared bounds s) m t path
      loose_done {types = types} {bounds = bounds} control {m =
          m} (declares {x = x} {word = word} {mutable = mutable} {v = v} c) typed holds none counted = record {
            holds = declared_done types bounds m holds x word mutable typed.0 typed.1 c (is_steady word mutable) refl;
            same = new_same types bounds m holds x (word_as word mutable) (v ∷ []) typed.0
                (one_held word mutable v (suited types bounds m holds word typed.1 c));
            fine = loose_fine declared types bounds m holds iterations c typed.1.has_type none;
          }
      loose_done {types = types} {bounds = bounds} control {m =
          m} (declares_array {x = x} {size = size} {word = word} {mutable = mutable} {vs = vs} cs) typed holds
          none counted =
          let held = made_held types bounds m holds word mutable size cs typed.1 typed.2 in
          record {
            holds = new_holds types bounds m holds x (array_as word mutable size) (made size vs) typed.0 held;
            same = new_same types bounds m holds x (array_as word mutable size) (made size vs) typed.0 held;
            fine = all_fine types bounds m holds word cs typed.1 none;
          }
      loose_done {types = types} {bounds = bounds} control {m = m} (assigns {x = x} {v = v} c) typed holds
          none counted =
          let held = one_held typed.word true v (suited types bounds m holds typed.word typed.suits c) in
          record {
            holds = assigned_holds types bounds m holds x (word_as typed.word true) (v ∷ []) typed.known refl held;
            same = assigned_same types bounds m holds x (word_as typed.word true) (v ∷ []) typed.known refl held;
            fine = loose_fine declared types bounds m holds iterations c typed.suits.has_type none;
          }
      loose_done {types = types} {bounds = bounds} control {m =
          m} (puts {place = place} {x = x} {size = size} {index = index} {value = value} {i = i} {v = v} {p =
          p} {q = q} c d) typed holds none counted =
          let old = holds.fits x (array_as typed.word true size) typed.known in
          let held : IsHeld (array_as typed.word true size) (slice_set (m x) i v) = record {
            count = length-set (m x) i v ∙ old.count;
            within = All-set (IsWithinKind typed.word.kind) (m x) i v
                (suited types bounds m holds typed.word typed.suits d) old.within;
          } in
          let parts = none_in (term_violations declared bounds index
          ++ index_violations place size (interval declared bounds index))
          (term_violations declared bounds value) none in
          let at = none_in (term_violations declared bounds index)
          (index_violations place size (interval declared bounds index)) parts.0 in
          record {
            holds = assigned_holds types bounds m holds x (array_as typed.word true size) (slice_set (m x) i v)
                typed.known refl held;
            same = assigned_same types bounds m holds x (array_as typed.word true size) (slice_set (m x) i v)
                typed.known refl held;
            fine = fine_both iterations p (indexed place size i ∷ q)
                (loose_fine declared types bounds m holds iterations c typed.index_type at.0) (
                  loose_below declared types bounds m holds iterations place size c typed.index_type at.1,
                  loose_fine declared types bounds m holds iterations d typed.suits.has_type parts.1,
                );
          }
      loose_done {types = types} {bounds = bounds} control {m =
          m} (holding {x = x} {place = place} {size = size} {index = index} {i = i} {path = p} c) typed known
          none counted =
          let held = one_held counter_type false i (loose_fits declared types bounds m known c typed.1) in
          let parts = none_in (term_violations declared bounds index)
          (index_violations place size (interval declared bounds index)) none in
          record {
            holds = known_holds types bounds m known x (word_as counter_type false) (i ∷ []) typed.0 held counter_type
                (interval declared bounds index) refl refl (loose_in declared types bounds m known c typed.1 refl);
            same = new_same types bounds m known x (word_as counter_type false) (i ∷ []) typed.0 held;
            fine = fine_both iterations p (indexed place size i ∷ [])
                (loose_fine declared types bounds m known iterations c typed.1 parts.0)
                (loose_below declared types bounds m known iterations place size c typed.1 parts.1, tt);
          }
      loose_done control skips typed known none counted =
          record { holds = known; same = λ y word is. refl; fine = tt }
      loose_done {types = types} {bounds = bounds} control {m = m} {t =
          t} (chooses {label = label} {condition = condition} {accepted = accepted} {otherwise = otherwise} {c =
          z} {p = p} {q = q} c arm) typed holds none counted =
          let one = where_true declared bounds label condition in
          let other = where_false declared bounds label condition in
          let parts = none_in (term_violations declared bounds condition ++ violations_all declared one accepted)
          (violations_all declared other otherwise) none in
          let firsts = none_in (term_violations declared bounds condition)
          (violations_all declared one accepted) parts.0 in
          let under = joined label control in
          let block : FlatBlock = if z == 0 then otherwise else accepted in
          let inside : Bounds = if z == 0 then other else one in
          let facts : AreTyped declared types under block × BoundsHold declared types inside m
          × (violations_all declared inside block ≡ []) × AllCounted inside block =
          elim (cases_Bool (z == 0)) [
            | inl zero ↦ rw zero (
              typed.2,
              holds_where_false declared types bounds m holds label c typed.0 refl (is_zero z zero),
              parts.1,
              counted.1,
            )
            | inr nonzero ↦ rw nonzero (
              typed.1,
              holds_where_true declared types bounds m holds label c typed.0 refl (not_zero z nonzero),
              firsts.1,
              counted.0,
            )
          ] in
          after_both p q (loose_fine declared types bounds m holds iterations c typed.0 firsts.0)
          (back types (types_after_all types block) holds
          (all_done {types = types} {bounds = inside} under arm facts.0 facts.1 facts.2 facts.3)
          (types_kept declared types under block facts.0))
      loose_done {types = types} {bounds = bounds} control {m = m} {t =
          t} (repeats {x = x} {low = low} {high = high} {body = body} {a = a} {b = b} {p = p} {q = q} {r =
          r} c d run) typed holds none counted =
          let parts = none_in (term_violations declared bounds low ++ term_violations declared bounds high)
          (violations_all declared (in_loop declared bounds x low high) body) none in
          let firsts = none_in (term_violations declared bounds low) (term_violations declared bounds high) parts.0 in
          let least = loose_in declared types bounds m holds c typed.0 refl in
          let most = loose_in declared types bounds m holds d typed.1 refl in
          let below = loose_fits declared types bounds m holds d typed.1 in
          let done = iterations_done {types = types} {bounds = bounds} control low high b below most.1 run
          (λ some. omega (arith, some)) least.0 typed.2 typed.3 holds parts.1 counted.1 in
          record {
            holds = done.holds;
            same = done.same;
            fine = fine_both iterations (p ++ q) (bounded x a b ∷ r)
                (fine_both iterations p q (loose_fine declared types bounds m holds iterations c typed.0 firsts.0)
                (loose_fine declared types bounds m holds iterations d typed.1 firsts.1))
                (omega (arith, least, most, counted.0), done.fine);
          }

      pub iterations_done : {types : Types} {bounds : Bounds} (control : Label) {m t : Values} {x n i : ℕ}
          {body : FlatBlock} {path : Path} (low high : TermTree) (b : ℕ) → b < 2 ^ 32
          → b ≤ (interval declared bounds high).high
          → Iterations (types_of profile declared) x body n i m t path → (0 < n → i + n ≤ b)
          → (interval declared bounds low).low ≤ i
          → IsNew declared types x (word_as counter_type false)
          → AreTyped declared (with_type types x (word_as counter_type false)) control body
          → BoundsHold declared types bounds m → violations_all declared (in_loop declared bounds x low high) body ≡ []
          → AllCounted (in_loop declared bounds x low high) body
          → IsLooseEnd types types bounds m t path
      iterations_done control low high b below most no_iteration count least new typed holds none counted =
          record { holds = holds; same = λ y word is. refl; fine = tt }
      iterations_done {types = types} {bounds = bounds} control {m = m} {t = t} {x = x}
          {body = body} low high b below most
          (an_iteration {n = n} {i = i} {s = s} {p = p} {q = q} run rest) count least new typed holds none counted =
          let own = word_as counter_type false in
          let inside = in_loop declared bounds x low high in
          let room : i + suc n ≤ b = count (omega arith) in
          let held = one_held counter_type false i (omega (arith, room, below)) in
          let here = counter_in (interval declared bounds low) (interval declared bounds high) i least
          (omega (arith, room, most)) in
          let start = known_holds types bounds m holds x own (i ∷ []) new held counter_type
          (counter_interval (interval declared bounds low) (interval declared bounds high)) refl refl here in
          let done = all_done {types = with_type types x own} {bounds = inside} control run typed start
          none counted in
          let same = λ (y : ℕ) (word : WordType) (is : types.at y ≡ Some (word_as word false)).
          done.same y word (with_type-other types x y own (new_number types x y (word_as word false) new.new is) ∙ is)
          ∙ new_same types bounds m holds x own (i ∷ []) new held y word is in
          let iteration = back types (types_after_all (with_type types x own) body) holds
          (record { holds = done.holds; same = same; fine = done.fine })
          (λ y d is. types_kept declared (with_type types x own) control body typed y d
          (with_type-other types x y own (new_number types x y d new.new is) ∙ is)) in
          let others = iterations_done {types = types} {bounds = bounds} control low high b below most rest
          (λ some. omega (arith, room)) (omega (arith, least)) new typed iteration.holds none counted in
          record {
            holds = others.holds;
            same = λ y word is. others.same y word is ∙ same y word is;
            fine = fine_both iterations p q done.fine others.fine;
          }

      pub all_done : {types : Types} {bounds : Bounds} (control : Label) {m t : Values} {b : FlatBlock} {path : Path}
          → LooselyLeadAll (types_of profile declared) m b t path → AreTyped declared types control b
          → BoundsHold declared types bounds m → violations_all declared bounds b ≡ [] → AllCounted bounds b
          → IsLooseEnd types (types_after_all types b) (bounds_after_all declared bounds b) m t path
      all_done control ends typed holds none counted = record { holds = holds; same = λ x word is. refl; fine = tt }
      all_done {types = types} {bounds = bounds} control
          (goes_on {statement = s} {rest = rest} {p = p} {q = q} run more) typed holds none counted =
          let parts = none_in (violations declared bounds s)
          (violations_all declared (bounds_after declared bounds s) rest) none in
          let one = loose_done {types = types} {bounds = bounds} control run typed.0 holds parts.0 counted.0 in
          let others = all_done {types = types_after types s} {bounds = bounds_after declared bounds s} control more
          typed.1 one.holds parts.1 counted.1 in
          record {
            holds = others.holds;
            same = λ x word is. others.same x word
                (type_kept declared types control s typed.0 x (word_as word false) is) ∙ one.same x word is;
            fine = fine_both iterations p q one.fine others.fine;
          }
