-- The code of a loop, whichever it is.
use Rattle.std.proofs.Common.{◌≡◌, ℕ, ◌+◌, ◌*◌, ◌<◌, ◌≤◌, ◌&&◌, not, Bool, false, nat_lt, List, length, Option, None}
use Rattle.std.proofs.Common.{Some, slice_get, refl, arith, ◌-◌, ◌∙◌, ◌++◌, ap, sym, subst, true, if◌then◌else◌}
use Rattle.std.proofs.lemmas.Bool.{and_parts, ltb-true, not-true, true≢false}
use Rattle.codegen.proofs.CountedLoops.{certain_number_runs, short_is, to_number_runs, to_word_runs}
use Rattle.codegen.proofs.CounterStarts.{IsStart, Numbers}
use Rattle.codegen.proofs.Language.{TermTree, word_as, term_nodes, types_of, TermHasType, counter_type, StraightBlock}
use Rattle.codegen.proofs.Language.{repeats, after, after_all, iterations_counted, path_at, path_along, path_in, value_in}
use Rattle.codegen.proofs.Language.{Values}
use Rattle.codegen.proofs.Logic.{as_code, Before, gives, none-some, same_Some, Setting, base_of, Runs, cheaper, Ready}
use Rattle.codegen.proofs.Logic.{layout_of}
use Rattle.codegen.proofs.LoopLengths.{iteration_near}
use Rattle.codegen.proofs.LoopRuns.{AtLoop, repeats_from, repeats_runs, taken_home, TakenFrom}
use Rattle.codegen.proofs.Machine.{at_home, bounds_code, far, height_of, home_of, InSlot, Instr, next_offset, slots_to}
use Rattle.codegen.proofs.Machine.{mirror_code, variable_location, variable_offset}
use Rattle.codegen.proofs.Slots.{Hidden, StateShown}
use Rattle.expression_code.proofs.WorkRegisters.{when_some}
use Rattle.codegen.specs.private.Fresh.{is_certain}
use Rattle.codegen.specs.private.Loops.{any_sets, counting_home, first_below, loop_from, repeat_code, short_number}
use Rattle.codegen.specs.private.Loops.{to_number_code}
use Rattle.codegen.specs.Below.{number}

-- what is so of a loop that counts in a home
record CountsIn (place : Option ℕ) (is_set : Bool) (body : List Instr) (home : ℕ) : Type 0 where
  there : place ≡ Some home
  unset : is_set ≡ false
  short : length body < 1000

counts_by : (place : Option ℕ) (offset : ℕ) (is_set : Bool) (body : List Instr) (home : ℕ)
    → counting_home (at_home place (InSlot offset)) is_set body ≡ Some home → CountsIn place is_set body home
counts_by None offset is_set body home is = absurd (none-some home is)
counts_by (Some h) offset is_set body home is =
    let both = when_some (not is_set && nat_lt (length body) 1000) (Some h) home is in
    let tests = and_parts (not is_set) (nat_lt (length body) 1000) both.0 in
    record { there = both.1; unset = not-true is_set tests.0; short = ltb-true (length body) 1000 tests.1 }

-- Of a loop that is certain to make an iteration: its first number, and that there is a bound.

first_there : (low high : TermTree) (bound : ℕ) → is_certain low high ≡ true → short_number high ≡ Some bound
    → (value : ℕ) × (first_below bound low ≡ Some value)
first_there (number l kind) (number v other) bound certain short =
    let both = and_parts (nat_lt l v) (nat_lt v 2048) certain in
    let kept = when_some (nat_lt v 2048) (Some v) bound short in
    let less = subst (λ n. nat_lt l n ≡ true) (same_Some v bound kept.1) both.0 in
    (l, ap (λ b. if b then Some l else None) less)
first_there low high bound certain short = absurd (true≢false (sym certain))

short_there : (low high : TermTree) → is_certain low high ≡ true → short_number high ≡ None → ⊥
short_there (number l kind) (number v other) certain none =
    let both = and_parts (nat_lt l v) (nat_lt v 2048) certain in
    none-some v (sym none ∙ ap (λ b. if b then Some v else None) both.1)
short_there low high certain none = true≢false (sym certain)

some_certain : (low high : TermTree) → is_certain low high ≡ true → (m : Values)
    → value_in m high - value_in m low ≡ 0 → ⊥
some_certain (number l kind) (number v other) certain m none =
    omega (arith, none, ltb-true l v (and_parts (nat_lt l v) (nat_lt v 2048) certain).0)
some_certain low high certain m none = true≢false (sym certain)

module _ (z : Setting) (depth x : ℕ) (within : depth < z.depths) (low high : TermTree) (body : StraightBlock) (n : ℕ)
    {ys : List Instr}
    (known : slice_get z.declared x ≡ Some (word_as counter_type false))
    (has_low : TermHasType (types_of z.code.profile z.declared) low counter_type)
    (has_high : TermHasType (types_of z.code.profile z.declared) high counter_type)
    (room_low : base_of z + 4 * slots_to z.allocation.count (height_of low) ≤ z.size)
    (room_high : base_of z + 4 * slots_to z.allocation.count (height_of high) ≤ z.size)
    (inner : Runs z n (λ env. path_along env body) ys (Ready z)
    (StateShown z (depth + 1) (λ env. after_all env body))) where
  abbrev next : ℕ
  next = next_offset (layout_of z) depth

  abbrev Loops : List Instr → Type 0
  Loops code = Runs z (16 * term_nodes low + 3 + (16 * term_nodes high + 3)
      + (iterations_counted z.counts x low high + 1) * (7 + (9 + n) + 2))
      (λ env. path_at env (repeats x low high body)) code (Ready z)
      (StateShown z depth (λ env. after env (repeats x low high body)))

  by_home : (home bound : Option ℕ)
      → counting_home (variable_location z.laid z.allocation x) (any_sets x body) ys ≡ home
      → short_number high ≡ bound
      → length (loop_from (layout_of z) next (variable_location z.laid z.allocation x)
      (mirror_code z.allocation x) low high ys home bound) < far
      → Loops (loop_from (layout_of z) next (variable_location z.laid z.allocation x)
      (mirror_code z.allocation x) low high ys home bound)
  by_home None bound counts short few =
      repeats_runs z depth within x low high body n known has_low has_high room_low room_high
      (iteration_near next (bounds_code (layout_of z) next low high)
      (variable_location z.laid z.allocation x) (mirror_code z.allocation x) ys few) inner
  by_home (Some h) (Some bound) counts short few =
      let c = counts_by (home_of z.allocation.homes x) (variable_offset z.laid x) (any_sets x body) ys h counts in
      cheaper (omega arith)
      (to_number_runs z depth x h within known c.there low high body n has_low room_low c.unset c.short inner bound
      (short_is high bound short))
  by_home (Some h) None counts short few =
      let c = counts_by (home_of z.allocation.homes x) (variable_offset z.laid x) (any_sets x body) ys h counts in
      cheaper (omega arith)
      (to_word_runs z depth x h within known c.there low high body n has_low room_low c.unset c.short inner has_high
      room_high)

  pub loops_run : length (repeat_code (layout_of z) depth x low high (any_sets x body) ys) < far
      → Loops (repeat_code (layout_of z) depth x low high (any_sets x body) ys)
  loops_run =
      by_home (counting_home (variable_location z.laid z.allocation x) (any_sets x body) ys) (short_number high)
      refl refl

  -- From a state in which the counter is not shown, where an iteration is certain.
  module _ (certain : is_certain low high ≡ true) (Start : Before) (starts : IsStart z Start) (h : ℕ)
      (at : home_of z.allocation.homes x ≡ Some h)
      (numbers : (home : ℕ) (there : home_of z.allocation.homes x ≡ Some home)
      → Numbers z depth x home known there Start)
      (begins : Runs z (16 * term_nodes low + 3 + (16 * term_nodes high + 3))
      (λ env. path_in env.variables low ++ path_in env.variables high) (bounds_code (layout_of z) next low high) Start
      (λ env s t. AtLoop z Start next (value_in env.variables high - value_in env.variables low)
      (value_in env.variables low) env t × Hidden z depth s t)) where
    abbrev LoopsFrom : List Instr → Type 0
    LoopsFrom code = Runs z (16 * term_nodes low + 3 + (16 * term_nodes high + 3)
        + (iterations_counted z.counts x low high + 1) * (7 + (9 + n) + 2))
        (λ env. path_at env (repeats x low high body)) code Start
        (StateShown z depth (λ env. after env (repeats x low high body)))

    certain_by : (home bound : Option ℕ)
        → counting_home (variable_location z.laid z.allocation x) (any_sets x body) ys ≡ home
        → short_number high ≡ bound
        → length (loop_from (layout_of z) next (variable_location z.laid z.allocation x)
        (mirror_code z.allocation x) low high ys home bound) < far
        → LoopsFrom (loop_from (layout_of z) next (variable_location z.laid z.allocation x)
        (mirror_code z.allocation x) low high ys home bound)
    certain_by None bound counts short few =
        repeats_from z depth within x low high body n
        (iteration_near next (bounds_code (layout_of z) next low high) (variable_location z.laid z.allocation x)
        (mirror_code z.allocation x) ys few) inner Start starts
        (λ left i. subst (λ (o : Option ℕ). TakenFrom z depth within Start x left i o) (sym at)
        (taken_home z depth within Start starts x left i h known at (numbers h at)))
        (16 * term_nodes low + 3 + (16 * term_nodes high + 3))
        (gives
        (λ env s t fine given begun.
        (begun.0, begun.1, λ none_left. absurd (some_certain low high certain env.variables none_left))) begins)
    certain_by (Some home) (Some bound) counts short few =
        let c = counts_by (home_of z.allocation.homes x) (variable_offset z.laid x) (any_sets x body) ys home counts in
        let found = first_there low high bound certain short in
        cheaper (omega arith)
        (as_code
        (ap (λ o. to_number_code (layout_of z) home (mirror_code z.allocation x) low bound ys o) found.1)
        (certain_number_runs z depth x home within known c.there low high body n has_low room_low c.unset c.short inner
        bound (short_is high bound short) Start starts (numbers home c.there) found.0 found.1))
    certain_by (Some home) None counts short few = absurd (short_there low high certain short)

    pub certain_loops_run : length (repeat_code (layout_of z) depth x low high (any_sets x body) ys) < far
        → LoopsFrom (repeat_code (layout_of z) depth x low high (any_sets x body) ys)
    certain_loops_run =
        certain_by (counting_home (variable_location z.laid z.allocation x) (any_sets x body) ys) (short_number high)
        refl refl
