-- Code over the variables that words live in, run beside the code: what is live stays alike, and its path is fine where
-- that of the code is.
use Rattle.std.proofs.Common.{◌≡◌, ◌≤◌, ℕ, Bool, true, false, if◌then◌else◌, List, [], ◌∷◌, map, Option, None}
use Rattle.std.proofs.Common.{Some, slice_set, slice_index, refl, sym, ap, arith}
use Rattle.straight_words.specs.Below.{after, after_all, array, binary, branch, convert, counted, element, first, holds}
use Rattle.straight_words.specs.Below.{nothing, prefix, put, repeats, rotate, select, set, StraightBlock, StraightState}
use Rattle.straight_words.specs.Below.{StraightTree, take, TermTree, value_at, Values, variable, with_variable}
use Rattle.straight_words.specs.live_words.private.Held.{Table, Holders, Held, share, is_live, anew}
use Rattle.straight_words.specs.live_words.private.Held.{living, setting, joined}
use Rattle.straight_words.specs.live_words.private.Terms.{reading, reading_all, renamed, is_dead}
use Rattle.straight_words.specs.live_words.private.Gathering.{at_head}
use Rattle.straight_words.specs.live_words.private.Sharing.{are_numbers, at_iteration, setting_within, closed, before}
use Rattle.straight_words.specs.live_words.private.Sharing.{before_all, in_front, shared, shared_all}
use Rattle.straight_words.proofs.live_words_lemmas.HeldLemmas.{Grows, grows_holding, grows_joined}
use Rattle.straight_words.proofs.live_words_lemmas.HeldLemmas.{joined_holds, covers_holds, AreAlike, alike_before}
use Rattle.straight_words.proofs.live_words_lemmas.HeldLemmas.{set_alike, under_alike, dead_alike, alike_living}
use Rattle.straight_words.proofs.live_words_lemmas.Rules.{front_chain, dead_parts, grows_counting, IsClosed}
use Rattle.straight_words.proofs.live_words_lemmas.Rules.{is_closed, set_fits, within_fits}
use Rattle.straight_words.proofs.live_words_lemmas.Grown.{grows_head}
use Rattle.straight_words.proofs.over_lemmas.Values.{same_path, both, alone, at_index, IsAlike, AreAllAlike}
use Rattle.straight_words.proofs.over_lemmas.Values.{prefix_alike, binary_alike, rotate_alike, convert_alike}
use Rattle.straight_words.proofs.over_lemmas.Values.{select_alike, element_alike, all_values_alike}
use Rattle.straight_words.proofs.over_lemmas.Beside.{AreBeside, within_beside, taken_beside, RunsBeside, FollowsAt}
use Rattle.straight_words.proofs.over_lemmas.Beside.{branch_follows, loop_follows_as, then_follows}

module _ (table : Table) where
  -- what is live is alike
  abbrev pub Alike : Holders → Values → Values → Type 0
  Alike holders = AreAlike table holders

  -- and it fits
  pub record AreReady (held : Held) (s u : StraightState) : Type 0 where
    pub fits : held.fits ≡ true
    pub beside : AreBeside (Alike held.holders) s u

  pub ready_before : {one other : Held} {s u : StraightState} → Grows one other → AreReady other s u → AreReady one s u
  ready_before {s = s} {u = u} grows ready = record {
    fits = grows.fits ready.fits;
    beside = record {
      variables = alike_before table grows ready.fits s.variables u.variables ready.beside.variables;
      controls = ready.beside.controls;
    };
  }

  -- for the variable of each word as many iterations are counted as for its own at least
  module _ (most : List ℕ) (as_many : (x : ℕ) → slice_index most x ≤ slice_index most (share table x)) where
    -- what a live word holds
    living_value : (held : Held) (x : ℕ) {s u : StraightState} → AreReady (living table held x) s u
        → u.variables (share table x) ≡ s.variables x
    living_value held x {s} {u} ready =
        sym (alike_living table held x s.variables u.variables ready.fits ready.beside.variables)

    not_living : (held : Held) (x : ℕ) {s u : StraightState} → AreReady (living table held x) s u → AreReady held s u
    not_living held x = ready_before (grows_holding held (share table x) x)

    -- an expression is alike where what it reads is live
    pub reads : (held : Held) (e : TermTree) {s u : StraightState} → AreReady (reading table [] held e) s u
        → IsAlike most s.variables u.variables e (renamed table e) × AreReady held s u
    reads held (variable x) ready = (
      record { value = ap (λ numbers. slice_index numbers 0) (living_value held x ready); path = same_path most },
      not_living held x ready,
    )
    reads held (prefix operator width operand) ready =
        let a = reads held operand ready in (prefix_alike a.0, a.1)
    reads held (binary place operator width left right) ready =
        let a = reads (reading table [] held right) left ready in
        let b = reads held right a.1 in
        (binary_alike a.0 b.0, b.1)
    reads held (rotate width operand amount) ready = let a = reads held operand ready in (rotate_alike a.0, a.1)
    reads held (convert kind operand) ready = let a = reads held operand ready in (convert_alike a.0, a.1)
    reads held (select condition accepted otherwise) ready =
        let last = reading table [] held otherwise in
        let chooser = reads (reading table [] last accepted) condition ready in
        let a = reads last accepted chooser.1 in
        let b = reads held otherwise a.1 in
        (select_alike chooser.0 a.0 b.0, b.1)
    reads held (element place x size index) ready =
        let i = reads (living table held x) index ready in
        (element_alike (living_value held x i.1) i.0, not_living held x i.1)
    reads held e ready = (record { value = refl; path = same_path most }, ready)

    reads_all : (held : Held) (es : List TermTree) {s u : StraightState} → AreReady (reading_all table [] held es) s u
        → AreAllAlike most s.variables u.variables es (map (renamed table) es) × AreReady held s u
    reads_all held [] ready = (record { values = refl; filled = λ size. refl; path = same_path most }, ready)
    reads_all held (e ∷ es) ready =
        let others = reads_all (reading table [] held e) es ready in
        let one = reads held e others.1 in
        (all_values_alike one.0 others.0, one.1)

    set_both : (held : Held) (x : ℕ) (v w : List ℕ) {s u : StraightState} → AreReady (setting table held x) s u
        → w ≡ v → AreBeside (Alike held.holders) (with_variable s x v) (with_variable u (share table x) w)
    set_both held x v w {s} {u} ready same = rw same (record {
      variables = set_alike table held x v s.variables u.variables ready.fits ready.beside.variables;
      controls = ready.beside.controls;
    })

    under_both : (within : Option ℕ) (held : Held) (x : ℕ) (v w : List ℕ) {s u : StraightState}
        → AreReady (living table held x) s u → w ≡ v
        → AreBeside (Alike held.holders) (if holds s within then with_variable s x v else s)
        (if holds u within then with_variable u (share table x) w else u)
    under_both within held x v w {s} {u} ready same =
        within_beside (Alike held.holders) within
        (ready_before (grows_holding held (share table x) x) ready).beside
        (rw same (record {
          variables = under_alike table held x v s.variables u.variables ready.fits ready.beside.variables;
          controls = ready.beside.controls;
        }))

    within_both : (within : Option ℕ) (held : Held) (x : ℕ) (v w : List ℕ) {s u : StraightState}
        → AreReady (setting_within table held within x) s u → w ≡ v
        → AreBeside (Alike held.holders) (if holds s within then with_variable s x v else s)
        (if holds u within then with_variable u (share table x) w else u)
    within_both None held x v w ready same = set_both held x v w ready same
    within_both (Some control) held x v w ready same = under_both (Some control) held x v w ready same

    dead_beside : (held : Held) (x : ℕ) (v : List ℕ) (b : Bool) {s u : StraightState}
        → is_live table held x ≡ false → AreBeside (Alike held.holders) s u
        → AreBeside (Alike held.holders) (if b then with_variable s x v else s) u
    dead_beside held x v true {s} {u} dead beside = record {
      variables = dead_alike table held x v s.variables u.variables dead beside.variables;
      controls = beside.controls;
    }
    dead_beside held x v false dead beside = beside

    set_follows : (within : Option ℕ) (held : Held) (x : ℕ) (value : TermTree) {s u : StraightState} (b : Bool)
        → is_dead table held x value ≡ b
        → AreReady (if b then held else reading table [] (setting_within table held within x) value) s u
        → (held.fits ≡ true)
        × FollowsAt (Alike held.holders) most s u (set within x value)
        (in_front (if b then None else Some (set within (share table x) (renamed table value))) nothing)
    set_follows within held x value {s} true dead ready = (
      ready.fits,
      record {
        beside = dead_beside held x (value_at s value ∷ []) (holds s within) (dead_parts table held x value dead).0
            ready.beside;
        path = record { fine = λ fine. tt };
      },
    )
    set_follows within held x value {s} {u} false dead ready =
        let one = reads (setting_within table held within x) value ready in (
          within_fits table within held x one.1.fits,
          record {
            beside = within_both within held x (value_at s value ∷ []) (value_at u (renamed table value) ∷ []) one.1
                (ap (λ v. v ∷ []) one.0.value);
            path = alone most one.0.path;
          },
        )

    -- where an iteration begins
    iteration_begins : (x : ℕ) (head iteration : Held) → IsClosed table x head iteration → (i : ℕ) (s u : StraightState)
        → AreBeside (Alike head.holders) s u
        → AreReady iteration (counted x i s) (counted (share table x) i u)
    iteration_begins x head iteration parts i s u beside =
        let first = setting table iteration x in
        record {
          fits = parts.iteration_fits;
          beside = record {
            variables = set_alike table iteration x (i ∷ []) s.variables u.variables parts.free
                (λ y is. beside.variables y (covers_holds head.holders 0 first.holders parts.covered (share table y)
                (share table y) y (omega arith) is));
            controls = beside.controls;
          };
        }

    -- what is live before the second arm
    ready_second : (one second : Held) {s u : StraightState} → second.fits ≡ true
        → AreReady (joined one 0 second.holders) s u → AreReady second s u
    ready_second one second fits =
        ready_before (record {
          fits = λ f. fits;
          holds = λ f v x is. joined_holds one 0 second.holders f v v x (omega arith) is;
        })

    -- behind an iteration
    ended : {one other : Held} {s u : StraightState} {body code : StraightBlock} → Grows one other
        → (other.fits ≡ true) × RunsBeside (Alike other.holders) most s u body code
        → RunsBeside (Alike one.holders) most s u body code
    ended grows run = record {
      beside = (ready_before grows (record { fits = run.0; beside = run.1.beside })).beside;
      path = run.1.path;
    }

    mutual
      -- what fits before a statement fits behind it, and it is followed
      follows : (held : Held) (statement : StraightTree) {s u : StraightState}
          → AreReady (before table held statement) s u
          → (held.fits ≡ true)
          × FollowsAt (Alike held.holders) most s u statement (in_front (shared table held statement) nothing)
      follows held (set within x value) ready =
          set_follows within held x value (is_dead table held x value) refl ready
      follows held (array x size values) ready =
          let all = reads_all (setting table held x) values ready in (
            set_fits table held x all.1.fits,
            record { beside = set_both held x _ _ all.1 (all.0.filled size); path = alone most all.0.path },
          )
      follows held (put within place x size index value) {s} {u} ready =
          let one = living table held x in
          let i = reads (reading table [] one value) index ready in
          let v = reads one value i.1 in
          let same = alike_living table held x s.variables u.variables v.1.fits v.1.beside.variables in (
            (grows_holding held (share table x) x).fits v.1.fits,
            record {
              beside = under_both within held x (slice_set (s.variables x) (value_at s index) (value_at s value)) _ v.1
                  (rw (← same, i.0.value, v.0.value) refl);
              path = alone most (both most i.0.path (at_index most place size i.0.value v.0.path));
            },
          )
      follows held (take control within condition) ready =
          let one = reads held condition ready in (
            one.1.fits,
            record {
              beside = taken_beside (Alike held.holders) control within one.1.beside one.0.value;
              path = alone most one.0.path;
            },
          )
      follows held (branch condition accepted otherwise) ready =
          let second = before_all table held otherwise in
          let one = before_all table (anew second held.holders) accepted in
          let chooser = reads (joined one 0 second.holders) condition ready in
          let at_one = ready_before (grows_joined one 0 second.holders) chooser.1 in
          let first_arm = all_follow (anew second held.holders) accepted at_one in
          let second_arm = all_follow held otherwise (ready_second one second first_arm.0 chooser.1) in
          (second_arm.0, branch_follows (Alike held.holders) most chooser.0 first_arm.1 second_arm.1)
      follows held (repeats x low high body) {s} {u} ready =
          let head = at_head table held x body in
          let end = at_iteration table held x low high body in
          let grows = grows_counting table head x (are_numbers low high) in
          let iteration = before_all table end body in
          let last = closed table x head iteration in
          let from = reads (reading table [] last high) low ready in
          let to = reads last high from.1 in
          let parts = is_closed table x head iteration to.1.fits in
          let fits = grows.fits (all_follow end body (iteration_begins x head iteration parts 0 s u to.1.beside)).0 in
          let run = loop_follows_as (Alike head.holders) most x (share table x) (as_many x) to.1.beside from.0 to.0
          (λ i v w at. ended grows (all_follow end body (iteration_begins x head iteration parts i v w at))) in (
            (grows_head table held x body).fits fits,
            record {
              beside = (ready_before (grows_head table held x body) (record {
                fits = fits;
                beside = run.beside;
              })).beside;
              path = run.path;
            },
          )

      pub all_follow : (held : Held) (body : StraightBlock) {s u : StraightState}
          → AreReady (before_all table held body) s u
          → (held.fits ≡ true) × RunsBeside (Alike held.holders) most s u body (shared_all table held body)
      all_follow held nothing ready = (ready.fits, record { beside = ready.beside; path = same_path most })
      all_follow held (first statement rest) {s} {u} ready =
          let behind = before_all table held rest in
          let code = in_front (shared table behind statement) nothing in
          let one = follows behind statement ready in
          let others = all_follow held rest {s = after s statement} {u = after_all u code} (record {
            fits = one.0;
            beside = one.1.beside;
          }) in (
            others.0,
            rw (← front_chain (shared table behind statement) (shared_all table held rest))
                (then_follows one.1 others.1),
          )
