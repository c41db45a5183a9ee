-- A loop over groups runs beside the loop that it is made of, where a copy of the body at each offset runs beside the
-- body: all variables hold the same afterwards, and its path is fine where that of the loop is.
use Rattle.std.proofs.Common.{◌≡◌, ℕ, zero, suc, ◌+◌, ◌-◌, ◌*◌, ◌^◌, ◌≤◌, ◌<◌, ◌==◌, Bool, true, false}
use Rattle.std.proofs.Common.{if◌then◌else◌, List, [], ◌∷◌, ◌++◌, None, Some, slice_index, refl, sym, ap, subst}
use Rattle.std.proofs.Common.{◌∙◌, arith}
use Rattle.std.proofs.lemmas.Bool.{eqb-false, eqb-true}
use Rattle.inline.proofs.Face.{with_value-other, with_value-same}
use Rattle.branch_removal.proofs.Sequences.{after-chain, path-chain}
use Rattle.optimisation.specs.Below.{after_all, chain, counted, first, iterations, Kind, number, Path}
use Rattle.optimisation.specs.Below.{path_along, path_of_iterations, repeats, StraightBlock, StraightState}
use Rattle.optimisation.specs.Below.{value_at, Values, with_variable}
use Rattle.optimisation.specs.declared.constants.terms.CounterRange.{CounterRange}
use Rattle.straight_words.specs.element_words.private.Splitting.{single}
use Rattle.optimisation.specs.iteration_groups.private.Grouping.{copies, first_of_group, group, group_code}
use Rattle.optimisation.specs.iteration_groups.private.Grouping.{grouped_loop, groups_in, left_in, number_set, shift_to}
use Rattle.optimisation.proofs.iteration_groups_lemmas.Iterations.{AreParts, in_parts}
use Rattle.optimisation.proofs.iteration_groups_lemmas.Values.{AreAlike}
use Rattle.straight_words.proofs.over_lemmas.Beside.{AreBeside, FollowsAt, RunsBeside}
use Rattle.straight_words.proofs.over_lemmas.Values.{alone, both, IsNoWorse, same_path}

-- so many variables but for one hold the same
abbrev pub AreNear : ℕ → ℕ → Values → Values → Type 0
AreNear n x m k = (y : ℕ) → y < n → (y ≡ x → ⊥) → k y ≡ m y

-- and the base of a group holds its number
pub record AreReady (n x base w : ℕ) (m k : Values) : Type 0 where
  pub near : AreNear n x m k
  pub held : k base ≡ w ∷ []

module _ (n x base : ℕ) (behind : n ≤ base) (most : List ℕ) (body : StraightBlock)
    (code : ℕ → StraightBlock)
    (follow : (offset w : ℕ) → w + offset < 2 ^ 32 → (s t : StraightState)
    → AreBeside (AreAlike n (Some (shift_to x base offset)) w) s t
    → RunsBeside (AreAlike n (Some (shift_to x base offset)) w) most s t body (code offset)) where
  -- an iteration of the loop, and of that over groups
  abbrev step : ℕ → StraightState → StraightState
  step i s = after_all (counted x i s) body

  abbrev step_path : ℕ → StraightState → Path
  step_path i s = path_along (counted x i s) body

  module _ (a : ℕ) where
    abbrev group_step : ℕ → StraightState → StraightState
    group_step g t = after_all (counted x g t) (group_code x base a code)

    abbrev group_path : ℕ → StraightState → Path
    group_path g t = path_along (counted x g t) (group_code x base a code)

  -- the counter is at the number of an iteration
  at_offset : (offset i w : ℕ) → i ≡ w + offset → {s t : StraightState} → AreBeside (AreReady n x base w) s t
      → AreBeside (AreAlike n (Some (shift_to x base offset)) w) (counted x i s) t
  at_offset offset i w is {s} {t} beside = record {
    variables = record {
      same = λ y below apart.
          beside.variables.near y below apart ∙ sym (with_value-other s.variables x y (i ∷ []) apart);
      hold = (beside.variables.held, with_value-same s.variables x (i ∷ []) ∙ ap (λ v. v ∷ []) is);
    };
    controls = beside.controls;
  }

  -- a copy beside an iteration
  copy_follows : (offset i w : ℕ) → i ≡ w + offset → i < 2 ^ 32 → {s t : StraightState}
      → AreBeside (AreReady n x base w) s t
      → AreBeside (AreReady n x base w) (step i s) (after_all t (code offset))
      × IsNoWorse most (step_path i s) (path_along t (code offset))
  copy_follows offset i w is low {s} {t} beside =
      let run = follow offset w (omega (arith, is, low)) (counted x i s) t (at_offset offset i w is beside) in (
        record {
          variables = record { near = run.beside.variables.same; held = run.beside.variables.hold.0 };
          controls = run.beside.controls;
        },
        run.path,
      )

  -- copies beside iterations
  copies_follow : (count offset i w : ℕ) → i ≡ w + offset → i + count ≤ 2 ^ 32 → {s t : StraightState}
      → AreBeside (AreReady n x base w) s t
      → AreBeside (AreReady n x base w) (iterations count i step s) (after_all t (copies code count offset))
      × IsNoWorse most (path_of_iterations count i step step_path s) (path_along t (copies code count offset))
  copies_follow zero offset i w is low beside = (beside, same_path most)
  copies_follow (suc count) offset i w is low {s} {t} beside =
      let here = copy_follows offset i w is (omega (arith, low)) beside in
      let rest = copies_follow count (offset + 1) (i + 1) w (omega (arith, is)) (omega (arith, low)) here.0 in
      let more = copies code count (offset + 1) in (
        rw (after-chain t (code offset) more) rest.0,
        rw (path-chain t (code offset) more) (both most here.1 rest.1),
      )

  -- the base is set
  base_set : (w v : ℕ) → v ≡ w → {s t : StraightState} → AreBeside (AreNear n x) s t
      → AreBeside (AreReady n x base w) s (with_variable t base (v ∷ []))
  base_set w v is {s} {t} beside = record {
    variables = record {
      near = λ y below apart.
          with_value-other t.variables base y (v ∷ []) (λ same. omega (arith, behind, below, same))
          ∙ beside.variables y below apart;
      held = with_value-same t.variables base (v ∷ []) ∙ ap (λ v. v ∷ []) is;
    };
    controls = beside.controls;
  }

  -- a group beside its iterations
  group_follows : (a g i : ℕ) → i ≡ a + g * 4 → i + 4 ≤ 2 ^ 32 → {s t : StraightState}
      → AreBeside (AreNear n x) s t
      → AreBeside (AreNear n x) (iterations group i step s) (group_step a g t)
      × IsNoWorse most (path_of_iterations group i step step_path s) (group_path a g t)
  group_follows a g i is low {s} {t} beside =
      let u = counted x g t in
      let at : slice_index (u.variables x) 0 ≡ g =
      ap (λ numbers. slice_index numbers 0) (with_value-same t.variables x (g ∷ [])) in
      let v = value_at u (first_of_group x a) in
      let value : v ≡ i = omega (arith, at, is, low) in
      let counted_beside : AreBeside (AreNear n x) s u = record {
        variables = λ y below apart.
            with_value-other t.variables x y (g ∷ []) apart ∙ beside.variables y below apart;
        controls = beside.controls;
      } in
      let ready = base_set i v value counted_beside in
      let run = copies_follow group 0 i i (omega arith) low ready in
      (record { variables = run.0.variables.near; controls = run.0.controls }, run.1)

  -- groups beside theirs
  groups_follow : (a q g m i : ℕ) → m ≡ q * 4 → i ≡ a + g * 4 → i + m ≤ 2 ^ 32 → {s t : StraightState}
      → AreBeside (AreNear n x) s t
      → AreBeside (AreNear n x) (iterations m i step s) (iterations q g (group_step a) t)
      × IsNoWorse most (path_of_iterations m i step step_path s)
      (path_of_iterations q g (group_step a) (group_path a) t)
  groups_follow a zero g m i all is low beside =
      let none : m ≡ 0 = omega (arith, all) in rw none (beside, same_path most)
  groups_follow a (suc q) g m i all is low {s} {t} beside =
      let parts = in_parts step step_path m group (q * 4) i (i + 4) (omega (arith, all)) (omega arith) s in
      let one = group_follows a g i is (omega (arith, all, low)) beside in
      let rest = groups_follow a q (g + 1) (q * 4) (i + 4) refl (omega (arith, is)) (omega (arith, all, low)) one.0 in
      (rw parts.end rest.0, rw parts.path (both most one.1 rest.1))

  -- after an iteration the counter is at its number
  counter_stays : (i : ℕ) → i < 2 ^ 32 → (s : StraightState) → (step i s).variables x ≡ i ∷ []
  counter_stays i low s =
      let ready : AreBeside (AreReady n x base i) s (with_variable s base (i ∷ [])) =
      base_set i i refl (record { variables = λ y below apart. refl; controls = refl }) in
      let is : i ≡ i + 0 = omega arith in
      let t = with_variable s base (i ∷ []) in
      let run = follow 0 i (omega (arith, low)) (counted x i s) t (at_offset 0 i i is ready) in
      run.beside.variables.hold.1 ∙ ap (λ v. v ∷ []) (sym is)

  module _ (w : ℕ) (range : CounterRange) (some : range.low < range.high) (low : range.high < 2 ^ 32)
      (s t : StraightState) (beside : AreBeside (AreAlike n None w) s t) where
    abbrev all : ℕ
    all = range.high - range.low

    abbrev in_groups : ℕ
    in_groups = groups_in range * 4

    -- where the groups end
    abbrev next : ℕ
    next = range.low + in_groups

    -- as many groups as the loop over them counts
    abbrev counted_groups : ℕ
    counted_groups = groups_in range - 0

    -- both runs there
    abbrev one : StraightState
    one = iterations in_groups range.low step s

    abbrev other : StraightState
    other = iterations counted_groups 0 (group_step range.low) t

    parts : AreParts step step_path all in_groups (left_in range) range.low next s
    parts = in_parts step step_path all in_groups (left_in range) range.low next (omega arith) refl s

    groups : AreBeside (AreNear n x) one other
        × IsNoWorse most (path_of_iterations in_groups range.low step step_path s)
        (path_of_iterations counted_groups 0 (group_step range.low) (group_path range.low) t)
    groups =
        groups_follow range.low counted_groups 0 in_groups range.low (omega arith) (omega arith)
        (omega (arith, low, some))
        (record { variables = λ y below apart. beside.variables.same y below tt; controls = beside.controls })

    -- with the base behind them
    abbrev ready : StraightState
    ready = with_variable other base ((range.high - left_in range) ∷ [])

    abbrev rest : StraightBlock
    rest = copies code (left_in range) 0

    copied : AreBeside (AreReady n x base next) (iterations (left_in range) next step one) (after_all ready rest)
        × IsNoWorse most (path_of_iterations (left_in range) next step step_path one) (path_along ready rest)
    copied =
        copies_follow (left_in range) 0 next next (omega arith) (omega (arith, low, some))
        (base_set next (range.high - left_in range) (omega (arith, some)) groups.0)

    -- the counter is set to the number that it has after the loop
    last : (iterations all range.low step s).variables x ≡ (range.high - 1) ∷ []
    last =
        let ends = in_parts step step_path all (all - 1) 1 range.low (range.high - 1) (omega (arith, some))
        (omega (arith, some)) s in
        ap (λ (u : StraightState). u.variables x) ends.end
        ∙ counter_stays (range.high - 1) (omega (arith, low)) (iterations (all - 1) range.low step s)

    abbrev end : StraightState
    end = with_variable (after_all ready rest) x ((range.high - 1) ∷ [])

    ended : AreBeside (AreAlike n None w) (iterations all range.low step s) end
    ended = record {
      variables = record { same = λ y below apart. by_counter y below (y == x) refl; hold = tt };
      controls = rw parts.end copied.0.controls;
    }
      where
        by_counter : (y : ℕ) → y < n → (b : Bool) → (y == x) ≡ b
            → (if b then (range.high - 1) ∷ [] else (after_all ready rest).variables y)
            ≡ (iterations all range.low step s).variables y
        by_counter y below true is = rw (eqb-true y x is) (sym last)
        by_counter y below false is = rw parts.end (copied.0.variables.near y below (eqb-false y x is))

    abbrev behind_loop : StraightBlock
    behind_loop =
        first (number_set base (range.high - left_in range)) (chain rest (single (number_set x (range.high - 1))))

    same_end : after_all other behind_loop ≡ end
    same_end = after-chain ready rest (single (number_set x (range.high - 1)))

    path_behind : IsNoWorse most (path_of_iterations (left_in range) next step step_path one)
        (path_along other behind_loop)
    path_behind =
        rw (path-chain ready rest (single (number_set x (range.high - 1)))) (alone most copied.1)

    inner : IsNoWorse most (path_of_iterations all range.low step step_path s)
        (path_of_iterations counted_groups 0 (group_step range.low) (group_path range.low) t
        ++ path_along other behind_loop)
    inner = rw parts.path (both most groups.1 path_behind)

    pub loop_follows : (kind kind' : Kind)
        → FollowsAt (AreAlike n None w) most s t (repeats x (number range.low kind) (number range.high kind') body)
        (grouped_loop x base range code)
    loop_follows kind kind' = record {
      beside = subst (λ (u : StraightState). AreBeside (AreAlike n None w) (iterations all range.low step s) u)
          (sym same_end) ended;
      path = record { fine = λ fine. (omega (arith, fine.0), inner.fine fine.1) };
    }
