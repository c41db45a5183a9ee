-- The code of a loop.
use Rattle.std.proofs.Common.{◌≡◌, ℕ, suc, ◌+◌, ◌-◌, ◌*◌, ◌%◌, ◌^◌, ◌<◌, ◌≤◌, false, nat_lt, List, [], ◌∷◌, ◌++◌}
use Rattle.std.proofs.Common.{length, Option, None, Some, slice_get, slice_index, refl, sym, ap, ap₂, ◌∙◌, subst, arith, append-nil}
use Rattle.std.proofs.Common.{inl, inr}
use Rattle.std.proofs.lemmas.Bool.Decides.{nat_tests}
use Rattle.std.proofs.lemmas.Nat.{mul-le}
use Rattle.codegen.proofs.CounterStarts.{IsStart, Numbers, ready_numbers, ready_starts}
use Rattle.codegen.proofs.CountingRuns.{count_same, home_low, moved_in}
use Rattle.codegen.proofs.Language.{TermTree, word_as, value_in, path_in, iterations, path_of_iterations, Path, bounded}
use Rattle.codegen.proofs.Language.{term_nodes, types_of, TermHasType, counter_type, StraightBlock, repeats}
use Rattle.codegen.proofs.Language.{StraightState, counted, after, after_all, path_at, path_along, word_of}
use Rattle.codegen.proofs.Language.{iterations_counted, Values}
use Rattle.codegen.proofs.Machine.{mirror_by, mirror_code, mirror_of, bounds_code, test_code, count_code, loop_code, variable_offset, at_home, home_of}
use Rattle.codegen.proofs.Machine.{InSlot, next_offset, slots_to, assign_code, variable_location, height_of, Instr}
use Rattle.codegen.proofs.Machine.{Addi, Sltu, Sw, ByteMap, number_at, with_number, sum_of}
use Rattle.rv_code.specs.declared.instructions.Instr.TheVariants as instr
use Rattle.rv_machine.specs.Machine as machine
use Rattle.codegen.proofs.Logic.{value_word, HeldAt, held_regs, take, put, does, move_runs, moves_run, number_or_zero}
use Rattle.codegen.proofs.Logic.{layout_of}
use Rattle.codegen.proofs.Logic.{Setting, setting, base_of, MarkKnown, by_bounds, none, Runs, Still, looping, along_fit}
use Rattle.codegen.proofs.Logic.{After, Before, cases_lt, never, Steps}
use Rattle.codegen.proofs.Logic.{as_code, mirror_register, seq, quiet, quietly, weaken, gives, cheaper, beside, Kept, Ready, Wrote, wrote_kept}
use Rattle.codegen.proofs.Logic.{wrote_there, kept_number, kept_less, kept_then, ready_below, HomesKept, homes_by}
use Rattle.codegen.proofs.Logic.{homes_computed, homes_moved, homes_then, computing_within, is_scratch, scratch_low}
use Rattle.codegen.proofs.Slots.{StateShown, ready_with, ready_behind, word_before, stored, assigned, Hidden}
use Rattle.codegen.proofs.Slots.{hidden_then, hidden_less, hidden_by, hidden_wrote, hidden_beyond, hidden_number}
use Rattle.codegen.proofs.Slots.{other_number, ready_set}
use Rattle.codegen.specs.Below.{number}
use Rattle.codegen.specs.private.Words.{put_word_code}
use Rattle.expression_code.specs.TermCode.{move_code}

-- So many iterations are left, the next of them for this number: both of the loop's words tell it.
pub record LoopCounts (z : Setting) (next left i : ℕ) (s : machine.State) : Type 0 where
  pub next_there : number_at s.bytes 4 (z.frame + next) ≡ Some i
  pub bound : ℕ
  pub left_is : bound - i ≡ left
  pub bound_small : bound < 2 ^ 32
  pub bound_there : number_at s.bytes 4 (z.frame + (next + 4)) ≡ Some bound

pub record AtLoop (z : Setting) (Start : Before) (next left i : ℕ) (env : StraightState) (s : machine.State) : Type 0 where
  pub ready : Start env s
  pub counts : LoopCounts z next left i s

-- whether an iteration is left is in the value's register, and the number in the left operand's
pub record TestedFor (z : Setting) (left i : ℕ) (env : StraightState) (s t : machine.State) : Type 0 where
  pub held : HeldAt z t
  pub six : t.regs 6 ≡ i
  pub five : t.regs 5 ≡ word_of (nat_lt 0 left)
  pub same : t.bytes ≡ s.bytes
  pub homes : HomesKept z s t

-- what is below a bound is as it was
pub hidden_below : (z : Setting) (depth free : ℕ) (s t : machine.State)
    → next_offset (layout_of z) depth ≤ free → Kept z free s t → Hidden z depth s t
hidden_below z depth free s t above kept o low high = kept o (omega (arith, high, above))

pub is_left : (bound i left : ℕ) → bound - i ≡ left → nat_lt i bound ≡ nat_lt 0 left
is_left bound i left e = grind (arith, nat_tests, e)

some_left : (left : ℕ) → word_of (nat_lt 0 (suc left)) ≡ 1
some_left left = grind (arith, nat_tests)

-- Iterations that are counted.

-- where no more lie between the bounds than are counted for the counter, no more do than are counted for the loop
lie_between : (most : List ℕ) (x : ℕ) (low high : TermTree) (m : Values)
    → value_in m high - value_in m low ≤ slice_index most x
    → value_in m high - value_in m low ≤ iterations_counted most x low high
lie_between most x (number low kind) (number high other) m few = omega (arith, few)
lie_between most x low high m few = few

-- code behind the bounds of a loop, with no more iterations between them than are counted for it
pub by_iterations : (z : Setting) {n : ℕ} {steps : Steps} {is : List Instr} {P : Before} {Q : After} (x : ℕ)
    (low high : TermTree)
    → ((b : ℕ × ℕ) → b.1 - b.0 ≤ iterations_counted z.counts x low high
    → Runs z n steps is (MarkKnown (setting z) (ℕ × ℕ) (λ c. c.1 - c.0 ≤ slice_index z.counts x) P
    (λ env. (value_in env.variables low, value_in env.variables high)) b) Q)
    → Runs z n (λ env. bounded x (value_in env.variables low) (value_in env.variables high) ∷ steps env) is P Q
by_iterations z x low high one =
    by_bounds z x (λ env. (value_in env.variables low, value_in env.variables high))
    (λ b few. elim (cases_lt (iterations_counted z.counts x low high) (b.1 - b.0)) [
      | inl more ↦
          never
          (λ env s known.
          let first = ap (λ (c : ℕ × ℕ). c.0) known.is in
          let second = ap (λ (c : ℕ × ℕ). c.1) known.is in
          let between = lie_between z.counts x low high env.variables (omega (arith, few, first, second)) in
          omega (arith, more, first, second, between))
      | inr within ↦ one b within
    ])

module _ (z : Setting) (depth : ℕ) (within : depth < z.depths) where
  abbrev pub next : ℕ
  next = next_offset (layout_of z) depth

  pub next_inside : next + 8 ≤ z.size
  next_inside = let room = z.room in omega (arith, room, within)

  -- where both words are as they were
  counts_kept : (left i : ℕ) (s t : machine.State)
      → ((o : ℕ) → next ≤ o → o ≤ next + 4 → number_at t.bytes 4 (z.frame + o) ≡ number_at s.bytes 4 (z.frame + o))
      → LoopCounts z next left i s → LoopCounts z next left i t
  counts_kept left i s t same counts = record {
    next_there = same next (omega arith) (omega arith) ∙ counts.next_there;
    bound = counts.bound;
    left_is = counts.left_is;
    bound_small = counts.bound_small;
    bound_there = same (next + 4) (omega arith) (omega arith) ∙ counts.bound_there;
  }

  at_same : (Start : Before) → IsStart z Start → (left i : ℕ) (env : StraightState) (s t : machine.State)
      → AtLoop z Start next left i env s → HeldAt z t → t.bytes ≡ s.bytes → HomesKept z s t
      → AtLoop z Start next left i env t
  at_same Start starts left i env s t at held same homes = record {
    ready = starts.moved env s t at.ready held same homes;
    counts = counts_kept left i s t (λ o low high. ap (λ (b : ByteMap). number_at b 4 (z.frame + o)) same) at.counts;
  }

  held_still : (s t : machine.State) → HeldAt z s → Still s t → HeldAt z t
  held_still s t held still = held_regs z s t (ap (λ (regs : ℕ → ℕ). regs 2) still.regs) still.bytes held

  pub test_runs : (Start : Before) → IsStart z Start → (left i : ℕ)
      → Runs z 7 none (test_code next) (AtLoop z Start next left i) (TestedFor z left i)
  test_runs Start starts left i =
      weaken
      (λ env s fine at. starts.held env s at.ready)
      (λ env s t fine at moved. record {
        held = moved.held;
        six = ap (λ (regs : ℕ → ℕ). regs 6) moved.regs ∙ ap number_or_zero at.counts.next_there;
        five =
            ap (λ (regs : ℕ → ℕ). regs 5) moved.regs
            ∙ (ap₂ (λ a b. word_of (nat_lt a b)) (ap number_or_zero at.counts.next_there)
            (ap number_or_zero at.counts.bound_there)
            ∙ ap word_of (is_left at.counts.bound i left at.counts.left_is));
        same = moved.bytes;
        homes = homes_moved z (take 6 next ∷ take 5 (next + 4) ∷ does (instr.Register Sltu 5 6 5 ∷ []) ∷ []) env s t
            refl moved;
      })
      (moves_run z (take 6 next) (take 5 (next + 4) ∷ does (instr.Register Sltu 5 6 5 ∷ []) ∷ []) refl
      ((omega arith, omega (arith, next_inside)), ((omega arith, omega (arith, next_inside)), (tt, tt))))

  -- The counter.

  abbrev pub Iterations : Before → ℕ → ℕ → StraightState → machine.State → Type 0
  Iterations Start left i env u = AtLoop z Start next (suc left) i env u × (u.regs 6 ≡ i)

  abbrev Counted : ℕ → ℕ → ℕ → StraightState → machine.State → machine.State → Type 0
  Counted x left i env u v = AtLoop z (Ready z) next left (i + 1) (counted x i env) v × Hidden z depth u v

  -- the counter has the number, and nothing else that is shown has changed
  pub record Taken (x i : ℕ) (env : StraightState) (s t : machine.State) : Type 0 where
    ready : Ready z (counted x i env) t
    six : t.regs 6 ≡ i
    hidden : Hidden z depth s t
    bound : number_at t.bytes 4 (z.frame + (next + 4)) ≡ number_at s.bytes 4 (z.frame + (next + 4))

  -- in its slot, or in its home
  abbrev pub TakenFrom : Before → ℕ → ℕ → ℕ → Option ℕ → Type 0
  TakenFrom Start x left i h = Runs z 5 none (put_word_code 6 (at_home h (InSlot (variable_offset z.laid x)))
      ++ mirror_by h (mirror_of z.allocation x)) (Iterations Start left i) (Taken x i)

  pub taken_home : (Start : Before) → IsStart z Start → (x left i home : ℕ)
      (known : slice_get z.declared x ≡ Some (word_as counter_type false))
      (at : home_of z.allocation.homes x ≡ Some home) → Numbers z depth x home known at Start
      → TakenFrom Start x left i (Some home)
  taken_home Start starts x left i home known at numbers =
      let low = home_low z depth x home known at in
      cheaper (omega arith)
      (weaken {P' = Iterations Start left i}
      (λ env s fine given.
      let counts = given.0.counts in
      (starts.held env s given.0.ready, omega (arith, given.1, counts.bound_small, counts.left_is)))
      (λ env s t fine given done.
      let counts = given.0.counts in
      record {
        ready = numbers (s.regs 6) i (omega (arith, counts.bound_small, counts.left_is)) env s t given.0.ready done given.1;
        six = done.second.others 6 (λ e. omega (arith, e))
            (λ mirror is e. omega (arith, z.allocated.some, (mirror_register z x mirror is).0, e))
            ∙ (done.first.others 6 (λ e. omega (arith, low, e)) ∙ given.1);
        hidden = hidden_by z depth s t (count_same z depth x home known at done);
        bound = ap (λ (b : ByteMap). number_at b 4 (z.frame + (next + 4))) (count_same z depth x home known at done);
      })
      (as_code (ap (λ (h : Option ℕ). move_code home 6 ++ mirror_by h (mirror_of z.allocation x)) (sym at))
      (moved_in z depth x home known at 6 (omega arith) (omega arith))))

  taken_by : (x left i : ℕ) → slice_get z.declared x ≡ Some (word_as counter_type false) → (h : Option ℕ)
      → home_of z.allocation.homes x ≡ h → TakenFrom (Ready z) x left i h
  taken_by x left i known None away =
      let o = variable_offset z.laid x in
      let before = word_before z x counter_type false known away in
      as_code (append-nil (put_word_code 6 (InSlot o)))
      (cheaper (omega arith)
      (weaken {P' = Iterations (Ready z) left i}
      (λ env s fine given. given.0.ready.held)
      (λ env s t fine given moved.
      let counts = given.0.counts in
      let wrote : Wrote z 4 o i s t = record {
        held = moved.held;
        written = moved.bytes ∙ ap (λ w. with_number s.bytes 4 (z.frame + o) w) given.1;
        homes = homes_moved z (put Sw 6 o ∷ []) env s t refl moved;
      } in
      record {
        ready = ready_set z x i counter_type false known away (omega (arith, counts.bound_small, counts.left_is)) env
            s t given.0.ready wrote;
        six = ap (λ (regs : ℕ → ℕ). regs 6) moved.regs ∙ given.1;
        hidden = hidden_wrote z depth 4 o i s t (omega (arith, before)) wrote;
        bound = other_number z 4 o i 4 (next + 4) s t wrote (inr (omega (arith, before)));
      })
      (move_runs z (put Sw 6 o) refl (omega arith, omega (arith, before, z.room)))))
  taken_by x left i known (Some home) at =
      taken_home (Ready z) (ready_starts z) x left i home known at (ready_numbers z depth x home known at)

  abbrev more_code : List Instr
  more_code = instr.Immediate Addi 6 6 1 ∷ []

  -- and then the next number is stored
  count_runs : (Start : Before) (x left i : ℕ) → TakenFrom Start x left i (home_of z.allocation.homes x)
      → Runs z 9 none (count_code next (variable_location z.laid z.allocation x) (mirror_code z.allocation x))
      (Iterations Start left i) (Counted x left i)
  count_runs Start x left i taken_runs =
      gives
      (λ env s t fine given done.
      let counts = given.0.counts in
      let u = done.first.middle in
      let m = done.middle in
      let taken = done.first.first in
      let more = done.first.second in
      let wrote = done.second in (
        record {
          ready = ready_behind z 4 next (i + 1) (omega arith) (counted x i env) m t
              (ready_with z (counted x i env) u m taken.ready more.held more.same
              (homes_computed z more_code u m refl more.registers)) wrote;
          counts = record {
            next_there = wrote_there z next (i + 1) m t wrote (omega (arith, counts.bound_small, counts.left_is));
            bound = counts.bound;
            left_is = omega (arith, counts.left_is);
            bound_small = counts.bound_small;
            bound_there = other_number z 4 next (i + 1) 4 (next + 4) m t wrote (inr (omega arith))
                ∙ (ap (λ (b : ByteMap). number_at b 4 (z.frame + (next + 4))) more.same
                ∙ (taken.bound ∙ counts.bound_there));
          };
        },
        hidden_then z depth s m t (hidden_then z depth s u m taken.hidden (hidden_by z depth u m more.same))
            (hidden_beyond z depth 4 next (i + 1) m t (omega arith) wrote),
      ))
      (stored z 6 next (λ env. i + 1) refl (omega arith) (omega (arith, next_inside))
      (quiet taken_runs
      (computing_within z is_scratch more_code refl scratch_low) (λ env s t given taken. taken.ready.held))
      (λ env s t given done.
      let counts = given.0.counts in (
        done.second.held,
        ap (λ (regs : ℕ → ℕ). regs 6) done.second.registers
            ∙ (ap (λ a. sum_of a 1) done.first.six ∙ omega (arith, counts.bound_small, counts.left_is)),
      )))

  -- Both bounds.

  -- the word at an offset has an expression's value
  record Pushed (e : TermTree) (o : ℕ) (env : StraightState) (s t : machine.State) : Type 0 where
    held : HeldAt z t
    there : number_at t.bytes 4 (z.frame + o) ≡ Some (value_in env.variables e)
    kept : Kept z o s t
    homes : HomesKept z s t

  pushed : (e : TermTree) (o : ℕ) → TermHasType (types_of z.code.profile z.declared) e counter_type
      → base_of z + 4 * slots_to z.allocation.count (height_of e) ≤ z.size → o ≤ base_of z → o % 4 ≡ 0
      → o + 4 ≤ z.size
      → Runs z (16 * term_nodes e + 3) (λ env. path_in env.variables e)
      (assign_code (layout_of z) e o) (Ready z) (Pushed e o)
  pushed e o has room below aligned inside =
      gives
      (λ env s t fine ready done.
      let m = done.middle in
      let v = value_in env.variables e in
      record {
        held = done.second.held;
        there = wrote_there z o v m t done.second
            (value_word z.code.profile z.declared e counter_type env.variables ready.fits has);
        kept = kept_then z o s m t (kept_less z o (base_of z) s m below done.first.kept)
            (wrote_kept z 4 o v m t done.second);
        homes = homes_then z s m t done.first.homes done.second.homes;
      })
      (assigned z o has room aligned inside)

  abbrev pub Begun : TermTree → TermTree → StraightState → machine.State → machine.State → Type 0
  Begun low high env s t = AtLoop z (Ready z) next (value_in env.variables high - value_in env.variables low)
      (value_in env.variables low) env t × Hidden z depth s t

  pub bounds_runs : (low high : TermTree) → TermHasType (types_of z.code.profile z.declared) low counter_type
      → TermHasType (types_of z.code.profile z.declared) high counter_type
      → base_of z + 4 * slots_to z.allocation.count (height_of low) ≤ z.size
      → base_of z + 4 * slots_to z.allocation.count (height_of high) ≤ z.size
      → Runs z (16 * term_nodes low + 3 + (16 * term_nodes high + 3))
      (λ env. path_in env.variables low ++ path_in env.variables high)
      (bounds_code (layout_of z) next low high) (Ready z) (Begun low high)
  bounds_runs low high has_low has_high room_low room_high =
      let base : next + 8 ≤ base_of z = omega (arith, within) in
      gives
      (λ env s t fine ready done.
      let m = done.middle in
      let one = done.first in
      let two = done.second in
      let ready1 = ready_below z next (omega arith) env s m ready one.held one.kept one.homes in (
        record {
          ready = ready_below z (next + 4) (omega arith) env m t ready1 two.held two.kept two.homes;
          counts = record {
            next_there = kept_number z (next + 4) m t two.kept 4 next (omega arith) ∙ one.there;
            bound = value_in env.variables high;
            left_is = refl;
            bound_small = value_word z.code.profile z.declared high counter_type env.variables ready.fits has_high;
            bound_there = two.there;
          };
        },
        hidden_then z depth s m t (hidden_below z depth next s m (omega arith) one.kept)
            (hidden_below z depth (next + 4) m t (omega arith) two.kept),
      ))
      (seq
      (pushed low next has_low room_low (omega (arith, base)) (omega arith) (omega (arith, next_inside)))
      (pushed high (next + 4) has_high room_high (omega (arith, base)) (omega arith) (omega (arith, next_inside)))
      (λ env s t ready done. ready_below z next (omega arith) env s t ready done.held done.kept done.homes))

  module _ (x : ℕ) (low high : TermTree) (body : StraightBlock) (n : ℕ) {ys : List Instr}
      (near : 2 * (length (test_code next) + length (count_code next (variable_location z.laid z.allocation x)
      (mirror_code z.allocation x) ++ ys)) + 8 < 2 ^ 19)
      (inner : Runs z n (λ env. path_along env body) ys (Ready z)
      (StateShown z (depth + 1) (λ env. after_all env body)))
      (Start : Before) (starts : IsStart z Start)
      (taken_runs : (left i : ℕ) → TakenFrom Start x left i (home_of z.allocation.homes x)) where
    abbrev one_iteration : ℕ → StraightState → StraightState
    one_iteration i env = after_all (counted x i env) body

    abbrev Done : ℕ → ℕ → StraightState → machine.State → machine.State → Type 0
    Done left i env u v = AtLoop z (Ready z) next left (i + 1) (one_iteration i env) v × Hidden z depth u v

    -- an iteration
    body_runs : (left i : ℕ)
        → Runs z (9 + n) (λ env. path_along (counted x i env) body)
        (count_code next (variable_location z.laid z.allocation x) (mirror_code z.allocation x) ++ ys)
        (Iterations Start left i) (Done left i)
    body_runs left i =
        gives
        (λ env u v fine given done.
        let m = done.middle in
        let first = done.first in
        let shown = done.second in (
          record {
            ready = shown.ready;
            counts =
                counts_kept left (i + 1) m v (λ o low high.
                hidden_number z (depth + 1) m v shown.hidden o (omega (arith, low)) (omega (arith, high)))
                first.0.counts;
          },
          hidden_then z depth u m v first.1 (hidden_less z depth (depth + 1) m v (omega arith) shown.hidden),
        ))
        (quietly (count_runs Start x left i (taken_runs left i)) (beside (counted x i) inner)
        (λ env s t given first. first.0.ready))

    -- where no iteration is left, the counter is shown as well
    abbrev Inv : ℕ → ℕ → StraightState → machine.State → machine.State → Type 0
    Inv left i env o s = AtLoop z Start next left i env s × Hidden z depth o s × (left ≡ 0 → Ready z env s)

    abbrev Over : StraightState → machine.State → machine.State → Type 0
    Over env o u = Ready z env u × Hidden z depth o u

    iterated : (left i : ℕ) (env : StraightState) (o s t u v w : machine.State) → Inv (suc left) i env o s
        → TestedFor z (suc left) i env s t → Still t u → Done left i env u v → Still v w
        → Inv left (i + 1) (one_iteration i env) o w
    iterated left i env o s t u v w inv tested still done back =
        let at' = at_same (Ready z) (ready_starts z) left (i + 1) (one_iteration i env) v w done.0
        (held_still v w done.0.ready.held back) back.bytes (homes_by z v w back.regs) in (
          record { ready = starts.shown (one_iteration i env) w at'.ready; counts = at'.counts },
          hidden_then z depth o s w inv.1
              (hidden_then z depth s u w (hidden_by z depth s u (still.bytes ∙ tested.same))
              (hidden_then z depth u v w done.1 (hidden_by z depth v w back.bytes))),
          λ none_left. at'.ready,
        )

    abbrev bounds : StraightState → ℕ × ℕ
    bounds env = (value_in env.variables low, value_in env.variables high)

    abbrev Beginning : StraightState → machine.State → Type 0
    Beginning env s = Inv ((bounds env).1 - (bounds env).0) (bounds env).0 env s s

    abbrev path_by : StraightState → ℕ × ℕ → Path
    path_by env b = path_of_iterations (b.1 - b.0) b.0 one_iteration (λ i e. path_along (counted x i e) body) env

    -- with bounds that are known beforehand
    loop_at : (b : ℕ × ℕ)
        → Runs z ((b.1 - b.0 + 1) * (7 + (9 + n) + 2)) (λ env. path_by env (bounds env))
        (loop_code (test_code next) (count_code next (variable_location z.laid z.allocation x) (mirror_code z.allocation x) ++ ys))
        (MarkKnown (setting z) (ℕ × ℕ) (λ c. c.1 - c.0 ≤ slice_index z.counts x) Beginning bounds b)
        (λ env s t. Over (iterations ((bounds env).1 - (bounds env).0) (bounds env).0 one_iteration env) s t)
    loop_at b =
        along_fit (λ env s known. ap (path_by env) known.is)
        (weaken
        (λ env s fine known. subst (λ (c : ℕ × ℕ). Inv (c.1 - c.0) c.0 env s s) known.is known.given)
        (λ env s t fine known over. subst (λ (c : ℕ × ℕ). Over (iterations (c.1 - c.0) c.0 one_iteration env) s t)
        (sym known.is) over)
        (looping {z = setting z} 5 (omega arith) (λ e. omega arith) {A = λ left i. AtLoop z Start next left i}
        {B = λ left i. TestedFor z left i} {C = Iterations Start} {D = Done}
        (λ i env. path_along (counted x i env) body) one_iteration Inv Over near
        (λ left i env o s inv. inv.0)
        (λ left i env o s t inv tested e. let f = tested.five ∙ some_left left in omega (arith, e, f))
        (λ i env o s t inv tested. tested.five)
        (λ left i env o s t u inv tested still. (
          at_same Start starts (suc left) i env s u inv.0 (held_still t u tested.held still) (still.bytes
              ∙ tested.same) (homes_then z s t u tested.homes (homes_by z t u still.regs)),
          ap (λ (regs : ℕ → ℕ). regs 6) still.regs ∙ tested.six,
        ))
        iterated
        (λ i env o s t u inv tested still. (
          ready_with z env s u (inv.2 refl) (held_still t u tested.held still) (still.bytes
              ∙ tested.same) (homes_then z s t u tested.homes (homes_by z t u still.regs)),
          hidden_then z depth o s u inv.1 (hidden_by z depth s u (still.bytes ∙ tested.same)),
        ))
        (test_runs Start starts) body_runs (b.1 - b.0) b.0))

    abbrev most : ℕ
    most = iterations_counted z.counts x low high

    loop_runs : Runs z ((most + 1) * (7 + (9 + n) + 2))
        (λ env. bounded x (bounds env).0 (bounds env).1 ∷ path_by env (bounds env))
        (loop_code (test_code next) (count_code next (variable_location z.laid z.allocation x) (mirror_code z.allocation x) ++ ys))
        Beginning (λ env s t. Over (iterations ((bounds env).1 - (bounds env).0) (bounds env).0 one_iteration env) s t)
    loop_runs =
        by_iterations z x low high
        (λ b few. cheaper (mul-le (b.1 - b.0 + 1) (7 + (9 + n) + 2) (most + 1) (7 + (9 + n) + 2)
        (omega (arith, few)) (omega arith)) (loop_at b))

    -- the bounds are in the loop's words, and where no iteration is left, the counter is shown as well
    abbrev pub Bounded : StraightState → machine.State → machine.State → Type 0
    Bounded env s t = AtLoop z Start next ((bounds env).1 - (bounds env).0) (bounds env).0 env t × Hidden z depth s t
        × ((bounds env).1 - (bounds env).0 ≡ 0 → Ready z env t)

    -- both bounds, and then the iterations
    pub repeats_from : (m : ℕ)
        → Runs z m (λ env. path_in env.variables low ++ path_in env.variables high)
        (bounds_code (layout_of z) next low high) Start Bounded
        → Runs z (m + (most + 1) * (7 + (9 + n) + 2)) (λ env. path_at env (repeats x low high body))
        (bounds_code (layout_of z) next low high
        ++ loop_code (test_code next) (count_code next (variable_location z.laid z.allocation x) (mirror_code z.allocation x) ++ ys))
        Start (StateShown z depth (λ env. after env (repeats x low high body)))
    repeats_from m begins =
        gives
        (λ env s t fine ready done. record {
          ready = done.second.0;
          hidden = hidden_then z depth s done.middle t done.first.1 done.second.1;
        })
        (seq begins loop_runs (λ env s t ready begun. (begun.0, (λ o from to. refl), begun.2)))

  pub repeats_runs : (x : ℕ) (low high : TermTree) (body : StraightBlock) (n : ℕ) {ys : List Instr}
      → slice_get z.declared x ≡ Some (word_as counter_type false)
      → TermHasType (types_of z.code.profile z.declared) low counter_type
      → TermHasType (types_of z.code.profile z.declared) high counter_type
      → base_of z + 4 * slots_to z.allocation.count (height_of low) ≤ z.size
      → base_of z + 4 * slots_to z.allocation.count (height_of high) ≤ z.size
      → 2 * (length (test_code next) + length (count_code next (variable_location z.laid z.allocation x)
      (mirror_code z.allocation x) ++ ys)) + 8 < 2 ^ 19
      → Runs z n (λ env. path_along env body) ys (Ready z) (StateShown z (depth + 1) (λ env. after_all env body))
      → Runs z (16 * term_nodes low + 3 + (16 * term_nodes high + 3)
      + (iterations_counted z.counts x low high + 1) * (7 + (9 + n) + 2)) (λ env. path_at env (repeats x low high body))
      (bounds_code (layout_of z) next low high
      ++ loop_code (test_code next) (count_code next (variable_location z.laid z.allocation x) (mirror_code z.allocation x) ++ ys))
      (Ready z) (StateShown z depth (λ env. after env (repeats x low high body)))
  repeats_runs x low high body n known has_low has_high room_low room_high near inner =
      repeats_from x low high body n near inner (Ready z) (ready_starts z)
      (λ left i. taken_by x left i known (home_of z.allocation.homes x) refl)
      (16 * term_nodes low + 3 + (16 * term_nodes high + 3))
      (gives (λ env s t fine ready begun. (begun.0, begun.1, λ none_left. begun.0.ready))
      (bounds_runs low high has_low has_high room_low room_high))
