-- The code of a loop that counts in its counter's home, by its bounds.
use Rattle.std.proofs.Common.{◌≡◌, ℕ, zero, suc, ◌+◌, ◌-◌, ◌*◌, ◌^◌, ◌<◌, ◌≤◌, ◌==◌, true, false}
use Rattle.std.proofs.Common.{nat_lt, List, [], ◌∷◌, ◌++◌, length, Option, None, Some, slice_get, slice_index, refl, sym, ap}
use Rattle.std.proofs.Common.{◌∙◌, ap₂, subst, arith, ne_eqb, length-append, append-nil}
use Rattle.std.proofs.lemmas.Bool.{ltb-true}
use Rattle.std.proofs.lemmas.Nat.{mul-le}
use Rattle.codegen.proofs.CertainRuns.{counted_runs}
use Rattle.codegen.proofs.CounterStarts.{IsStart, Numbers, ready_numbers, ready_starts}
use Rattle.codegen.proofs.CountingRuns.{Guarded, HoldsNumber, guarded_runs, home_high, home_low, homes_compared}
use Rattle.codegen.proofs.CountingRuns.{one_computed}
use Rattle.codegen.proofs.Language.{TermTree, word_as, value_in, path_in, iterations, path_of_iterations, Path, bounded}
use Rattle.codegen.proofs.Language.{term_nodes, types_of, TermHasType, counter_type, StraightBlock, repeats}
use Rattle.codegen.proofs.Language.{iterations_counted}
use Rattle.codegen.proofs.Language.{StraightState, counted, after, after_all, path_at, path_along, word_of, Values}
use Rattle.codegen.proofs.LoopRuns.{AtLoop, bounds_runs, by_iterations, is_left, next, next_inside, test_runs}
use Rattle.codegen.proofs.Logic.{lt-ltb, nat_tests, none-some, same_Some, HeldAt, Setting, setting, base_of, MarkKnown}
use Rattle.codegen.proofs.Logic.{layout_of}
use Rattle.codegen.proofs.Logic.{none, Runs, along, along_fit, seq, quietly, weaken, gives, cheaper, never}
use Rattle.codegen.proofs.Logic.{Ready, HomesKept, homes_moved, number_or_zero, take, does, moves_run}
use Rattle.codegen.proofs.Logic.{Before, register-at}
use Rattle.codegen.proofs.Logic.{load_length}
use Rattle.codegen.proofs.Machine.{bounds_code, test_code, home_of, height_of, read_code, read_register, Instr}
use Rattle.codegen.proofs.Machine.{slots_to, ByteMap, number_at, Sltu}
use Rattle.codegen.proofs.PairRuns.{FirstRead, read_then}
use Rattle.codegen.proofs.Slots.{StateShown, Hidden, hidden_then, hidden_by, hidden_number, ready_with}
use Rattle.codegen.proofs.Slots.{read_source, source_apart}
use Rattle.codegen.specs.private.Loops.{any_sets, below_number_code, below_word_code, counted_code, first_below}
use Rattle.codegen.specs.private.Loops.{guarded_code, iteration_code, short_number, to_number_code}
use Rattle.codegen.specs.Below.{Addi, number, sign_extended, Sltiu}
use Rattle.rv_code.specs.declared.instructions.Instr.TheVariants as instr
use Rattle.rv_machine.specs.Machine as machine
use Rattle.codegen.proofs.Machine.{mirror_code, mirror_of}
use Rattle.codegen.proofs.Mirroring.{mirror_length}
use Rattle.expression_code.proofs.WorkRegisters.{when_some}

-- Numbers as bounds.

pub record IsShort (e : TermTree) (bound : ℕ) : Type 0 where
  pub small : bound < 2048
  pub value : (m : Values) → value_in m e ≡ bound
  pub path : (m : Values) → path_in m e ≡ []

pub short_is : (e : TermTree) (bound : ℕ) → short_number e ≡ Some bound → IsShort e bound
short_is (number value kind) bound is =
    let both = when_some (nat_lt value 2048) (Some value) bound is in
    let e = same_Some value bound both.1 in
    record { small = omega (arith, e, ltb-true value 2048 both.0); value = λ m. e; path = λ m. refl }
short_is e bound is = absurd (none-some bound is)

record IsBelow (low : TermTree) (bound value : ℕ) : Type 0 where
  short : IsShort low value
  below : value < bound

below_is : (low : TermTree) (bound value : ℕ) → bound < 2048 → first_below bound low ≡ Some value
    → IsBelow low bound value
below_is (number v kind) bound value small is =
    let both = when_some (nat_lt v bound) (Some v) value is in
    let e = same_Some v value both.1 in
    let less = ltb-true v bound both.0 in
    record {
      short = record { small = omega (arith, small, e, less); value = λ m. e; path = λ m. refl };
      below = omega (arith, e, less);
    }
below_is low bound value small is = absurd (none-some value is)

module _ (z : Setting) where
  -- whether a register is below a number comes into another
  compared : (d r bound : ℕ) → 4 < d → d < 32 → 4 < r → r < 32 → bound < 2048
      → Runs z 1 none (below_number_code d r bound) (λ env s. HeldAt z s)
      (λ env s t. HoldsNumber z d (word_of (nat_lt (s.regs r) bound)) s t)
  compared d r bound low high low' high' small =
      let same : sign_extended 12 bound ≡ bound = grind (arith, nat_tests, small) in
      gives
      (λ env s t fine held done. subst (λ v. HoldsNumber z d v s t)
      (ap₂ (λ a v. word_of (nat_lt a v)) (register-at s.regs r (λ e. omega (arith, low', e))) same) done)
      (one_computed z (instr.Immediate Sltiu d r bound)
      (simp (lt-ltb 4 d low, lt-ltb d 32 high, lt-ltb r 32 high', lt-ltb bound 4096 (omega (arith, small))))
      (λ e. omega (arith, low, e)))

module _ (z : Setting) (depth x h : ℕ) (within : depth < z.depths)
    (known : slice_get z.declared x ≡ Some (word_as counter_type false)) (at : home_of z.allocation.homes x ≡ Some h)
    (low high : TermTree) (body : StraightBlock) (n : ℕ) {ys : List Instr}
    (has_low : TermHasType (types_of z.code.profile z.declared) low counter_type)
    (room_low : base_of z + 4 * slots_to z.allocation.count (height_of low) ≤ z.size)
    (unset : any_sets x body ≡ false) (short : length ys < 1000)
    (inner : Runs z n (λ env. path_along env body) ys (Ready z)
    (StateShown z (depth + 1) (λ env. after_all env body))) where
  abbrev one_iteration : ℕ → StraightState → StraightState
  one_iteration i env = after_all (counted x i env) body

  abbrev bounds : StraightState → ℕ × ℕ
  bounds env = (value_in env.variables low, value_in env.variables high)

  abbrev path_by : StraightState → ℕ × ℕ → Path
  path_by env b = path_of_iterations (b.1 - b.0) b.0 one_iteration (λ i e. path_along (counted x i e) body) env

  -- the state is shown, and the words of the loops around are as they were
  abbrev Done : StraightState → machine.State → machine.State → Type 0
  Done env s t = Ready z env t × Hidden z depth s t

  abbrev Looped : StraightState → machine.State → machine.State → Type 0
  Looped = StateShown z depth (λ env. iterations ((bounds env).1 - (bounds env).0) (bounds env).0 one_iteration env)

  -- the bounds are these, with no more iterations between them than are counted
  abbrev With : (StraightState → machine.State → Type 0) → ℕ × ℕ → StraightState → machine.State → Type 0
  With P b = MarkKnown (setting z) (ℕ × ℕ) (λ c. c.1 - c.0 ≤ slice_index z.counts x) P bounds b

  abbrev most : ℕ
  most = iterations_counted z.counts x low high

  -- the cost of all iterations, with so many instructions in the test
  abbrev iterations_cost : ℕ → ℕ
  iterations_cost c = most * (n + (3 + c) + 1)

  -- the code by which the counter's mirror follows it
  abbrev mirror : List Instr
  mirror = mirror_code z.allocation x

  round_near : (test : List Instr) → length test ≤ 4
      → 2 * length (ys ++ (instr.Immediate Addi h h 1 ∷ (mirror ++ test))) ≤ 2 ^ 11
  round_near test few =
      let short_mirror = mirror_length (home_of z.allocation.homes x) (mirror_of z.allocation x) in
      omega (arith, few, short, short_mirror, length-append {A = Instr})

  -- what is shown with bounds that are known beforehand is shown with those of the state
  looped_by : (b : ℕ × ℕ) (env : StraightState) (s t : machine.State) → bounds env ≡ b
      → Done (iterations (b.1 - b.0) b.0 one_iteration env) s t → Looped env s t
  looped_by b env s t is done = record {
    ready = subst (λ (c : ℕ × ℕ). Ready z (iterations (c.1 - c.0) c.0 one_iteration env) t) (sym is) done.0;
    hidden = done.1;
  }

  -- Up to a number.

  module _ (bound : ℕ) (is_short : IsShort high bound) where
    abbrev AtBound : ℕ → ByteMap → Type 0
    AtBound limit bytes = limit ≡ bound

    number_tests : (limit : ℕ) → Runs z 1 none (below_number_code 5 h bound) (λ env s. HeldAt z s × (limit ≡ bound))
        (λ env s t. HeldAt z t × (t.regs 5 ≡ word_of (nat_lt (s.regs h) limit)) × (t.bytes ≡ s.bytes)
        × HomesKept z s t)
    number_tests limit =
        let least = home_low z depth x h known at in
        let most = home_high z depth x h known at in
        weaken
        (λ env s fine given. given.0)
        (λ env s t fine given done. (
          done.held,
          done.there ∙ ap (λ v. word_of (nat_lt (s.regs h) v)) (sym given.1),
          done.same,
          homes_compared z (omega arith) done,
        ))
        (compared z 5 h bound (omega arith) (omega arith) (omega (arith, least)) (omega (arith, most)) is_short.small)

    limited : (limit : ℕ) (bytes : ByteMap) → AtBound limit bytes → limit < 2 ^ 32
    limited limit bytes is = omega (arith, is, is_short.small)

    abbrev start : ℕ
    start = read_register z.allocation 5 low

    abbrev guard_code : List Instr
    guard_code = below_number_code 6 start bound ++ guarded_code 6 h mirror start (below_number_code 5 h bound) ys

    guard_at : (b : ℕ × ℕ) → b.1 - b.0 ≤ most
        → Runs z (1 + (2 + (3 + (iterations_cost 1 + 3)) + 0)) (λ env. path_by env (bounds env)) guard_code
        (With (FirstRead z low) b) Looped
    guard_at b few =
        let source = read_source z low 5 (omega arith) (omega arith) in
        let apart = source_apart z source 6 (omega arith) (λ e. omega (arith, e)) in
        let limit = b.0 + (b.1 - b.0) in
        along_fit (λ env s known. ap (path_by env) known.is)
        (gives
        (λ env s t fine known done.
        let m = done.middle in
        looped_by b env s t known.is
        (done.second.0, hidden_then z depth s m t (hidden_by z depth s m done.first.1) done.second.1))
        (quietly
        (weaken {P' = With (FirstRead z low) b}
        {R = λ env s t. Guarded z (AtBound limit) 6 start (b.1 - b.0) b.0 env t × (t.bytes ≡ s.bytes)}
        (λ env s fine known. known.given.ready.held)
        (λ env s t fine known done.
        let first = known.given.there ∙ ap (λ (c : ℕ × ℕ). c.0) known.is in
        let second = sym (is_short.value env.variables) ∙ ap (λ (c : ℕ × ℕ). c.1) known.is in (
          record {
            ready = ready_with z env s t known.given.ready done.held done.same (homes_compared z (omega arith) done);
            start = done.others start apart ∙ first;
            any = done.there ∙ (ap (λ v. word_of (nat_lt v bound)) first
                ∙ (ap (λ v. word_of (nat_lt b.0 v)) second ∙ ap word_of (is_left b.1 b.0 (b.1 - b.0) refl)));
            there = λ some. omega (arith, some, second);
          },
          done.same,
        ))
        (compared z 6 start bound (omega arith) (omega arith) source.low (omega (arith, source.high)) is_short.small))
        (guarded_runs z depth x h known at 1 n limit (AtBound limit) body (λ s t hidden is. is) (limited limit)
        (number_tests limit) unset inner (round_near _ (omega arith)) 6 start (omega arith) (omega arith) source.low
        (omega (arith, source.high)) (b.1 - b.0) b.0 refl most few)
        (λ env s t known done. done.0)))

    -- from any first number on
    read_number_runs : Runs z (16 * term_nodes low + (1 + (2 + (3 + (iterations_cost 1 + 3)) + 0)))
        (λ env. path_in env.variables low ++ bounded x (bounds env).0 (bounds env).1 ∷ path_by env (bounds env))
        (read_code (layout_of z) 5 0 low ++ guard_code) (Ready z) Looped
    read_number_runs =
        read_then z depth (omega (arith, within)) has_low room_low (by_iterations z x low high guard_at)

    -- from a number below the bound on

    module _ (Start : Before) (starts : IsStart z Start) (numbers : Numbers z depth x h known at Start) (value : ℕ)
        (is_below : IsBelow low bound value) where
      abbrev last : ℕ
      last = bound - 1

      last_near : 2 * length (iteration_code h mirror last ys) ≤ 2 ^ 11
      last_near =
          let short_mirror = mirror_length (home_of z.allocation.homes x) (mirror_of z.allocation x) in
          omega (arith, short, short_mirror, length-append {A = Instr})

      certain_at : (b : ℕ × ℕ) → b.1 - b.0 ≤ most → (left : ℕ) → b.1 - b.0 ≡ left
          → Runs z (iterations_cost 1 + 1)
          (λ env. path_of_iterations left b.0 one_iteration (λ i e. path_along (counted x i e) body) env)
          (counted_code h mirror value last ys) (With Start b)
          (λ env s t. Done (iterations left b.0 one_iteration env) s t)
      certain_at b few zero is =
          never
          (λ env s known.
          let first = sym (is_below.short.value env.variables) ∙ ap (λ (c : ℕ × ℕ). c.0) known.is in
          let second = sym (is_short.value env.variables) ∙ ap (λ (c : ℕ × ℕ). c.1) known.is in
          omega (arith, is, first, second, is_below.below))
      certain_at b few (suc left) is =
          let e = mul-le (left + 1) (3 + (n + 1) + 1) most (n + (3 + 1) + 1)
          (omega (arith, few, is)) (omega arith) in
          cheaper (omega (arith, e))
          (weaken
          (λ env s fine known.
          let first = sym (is_below.short.value env.variables) ∙ ap (λ (c : ℕ × ℕ). c.0) known.is in
          let second = sym (is_short.value env.variables) ∙ ap (λ (c : ℕ × ℕ). c.1) known.is in
          (known.given, first, omega (arith, is, second)))
          (λ env s t fine known done. done)
          (counted_runs z depth x h known at last (omega (arith, is_short.small)) n body unset inner Start starts
          numbers last_near value
          is_below.short.small left b.0))

      certain_runs : Runs z (iterations_cost 1 + 1)
          (λ env. path_in env.variables low ++ bounded x (bounds env).0 (bounds env).1 ∷ path_by env (bounds env))
          (counted_code h mirror value last ys) Start Looped
      certain_runs =
          along
          (λ env. ap (λ (p : Path). p ++ bounded x (bounds env).0 (bounds env).1 ∷ path_by env (bounds env))
          (is_below.short.path env.variables))
          (by_iterations z x low high (λ b few. along_fit (λ env s known. ap (path_by env) known.is)
          (gives (λ env s t fine known done. looped_by b env s t known.is done)
          (certain_at b few (b.1 - b.0) refl))))

    abbrev ToNumber : List Instr → Type 0
    ToNumber code = Runs z (16 * term_nodes low + (1 + (2 + (3 + (iterations_cost 1 + 3)) + 0)))
        (λ env. path_in env.variables low ++ bounded x (bounds env).0 (bounds env).1 ∷ path_by env (bounds env))
        code (Ready z) Looped

    by_first : (first_number : Option ℕ) → first_below bound low ≡ first_number
        → ToNumber (to_number_code (layout_of z) h mirror low bound ys first_number)
    by_first None is = read_number_runs
    by_first (Some value) is =
        cheaper (omega arith)
        (certain_runs (Ready z) (ready_starts z) (ready_numbers z depth x h known at) value
        (below_is low bound value is_short.small is))

    -- the bound puts nothing on the path
    short_path : (env : StraightState) → path_at env (repeats x low high body)
        ≡ path_in env.variables low ++ bounded x (bounds env).0 (bounds env).1 ∷ path_by env (bounds env)
    short_path env =
        let rest = bounded x (bounds env).0 (bounds env).1 ∷ path_by env (bounds env) in
        ap (λ (front : Path). front ++ rest)
        (ap (λ (p : Path). path_in env.variables low ++ p) (is_short.path env.variables)
        ∙ append-nil (path_in env.variables low))

    pub to_number_runs : Runs z (16 * term_nodes low + (1 + (2 + (3 + (iterations_cost 1 + 3)) + 0)))
        (λ env. path_at env (repeats x low high body))
        (to_number_code (layout_of z) h mirror low bound ys (first_below bound low)) (Ready z)
        (StateShown z depth (λ env. after env (repeats x low high body)))
    to_number_runs = along short_path (by_first (first_below bound low) refl)

    -- also from a state in which the counter is not shown, where an iteration is certain
    pub certain_number_runs : (Start : Before) → IsStart z Start → Numbers z depth x h known at Start → (value : ℕ)
        → first_below bound low ≡ Some value
        → Runs z (16 * term_nodes low + (1 + (2 + (3 + (iterations_cost 1 + 3)) + 0)))
        (λ env. path_at env (repeats x low high body)) (counted_code h mirror value (bound - 1) ys) Start
        (StateShown z depth (λ env. after env (repeats x low high body)))
    certain_number_runs Start starts numbers value is =
        along short_path
        (cheaper (omega arith) (certain_runs Start starts numbers value (below_is low bound value is_short.small is)))

  -- Up to a bound in the frame.

  module _ (has_high : TermHasType (types_of z.code.profile z.declared) high counter_type)
      (room_high : base_of z + 4 * slots_to z.allocation.count (height_of high) ≤ z.size) where
    abbrev words : ℕ
    words = next z depth within

    abbrev InWord : ℕ → ByteMap → Type 0
    InWord limit bytes = (number_at bytes 4 (z.frame + (words + 4)) ≡ Some limit) × (limit < 2 ^ 32)

    word_kept : (limit : ℕ) (s t : machine.State) → Hidden z (depth + 1) s t → InWord limit s.bytes
        → InWord limit t.bytes
    word_kept limit s t hidden there =
        (hidden_number z (depth + 1) s t hidden (words + 4) (omega arith) (omega arith) ∙ there.0, there.1)

    word_tests : (limit : ℕ) → Runs z 4 none (below_word_code h words) (λ env s. HeldAt z s × InWord limit s.bytes)
        (λ env s t. HeldAt z t × (t.regs 5 ≡ word_of (nat_lt (s.regs h) limit)) × (t.bytes ≡ s.bytes)
        × HomesKept z s t)
    word_tests limit =
        let inside = next_inside z depth within in
        let least = home_low z depth x h known at in
        let most = home_high z depth x h known at in
        let few : nat_lt h 32 ≡ true = lt-ltb h 32 (omega (arith, most)) in
        let h0 : (h == 0) ≡ false = ne_eqb h 0 (λ e. omega (arith, least, e)) in
        let h5 : (h == 5) ≡ false = ne_eqb h 5 (λ e. omega (arith, least, e)) in
        let compare = instr.Register Sltu 5 h 5 ∷ [] in
        weaken
        (λ env s fine given. given.0)
        (λ env s t fine given moved.
        let v = number_or_zero (number_at s.bytes 4 (z.frame + (words + 4))) in
        let made : t.regs 5 ≡ word_of (nat_lt (s.regs h) v) = ap (λ (regs : ℕ → ℕ). regs 5) moved.regs
        ∙ simp (h0, h5) in (
          moved.held,
          made ∙ ap (λ o. word_of (nat_lt (s.regs h) (number_or_zero o))) given.1.0,
          moved.bytes,
          homes_moved z (take 5 (words + 4) ∷ does compare ∷ []) env s t (simp few) moved,
        ))
        (moves_run z (take 5 (words + 4)) (does compare ∷ []) (simp few)
        ((omega arith, omega (arith, inside)), (tt, tt)))

    word_test_length : length (below_word_code h words) ≤ 4
    word_test_length = omega (arith, length-append {A = Instr}, load_length 5 (words + 4))

    abbrev Beginning : StraightState → machine.State → Type 0
    Beginning env s = AtLoop z (Ready z) words ((bounds env).1 - (bounds env).0) (bounds env).0 env s

    abbrev word_code : List Instr
    word_code = test_code words ++ guarded_code 5 h mirror 6 (below_word_code h words) ys

    word_at : (b : ℕ × ℕ) → b.1 - b.0 ≤ most
        → Runs z (7 + (2 + (3 + (iterations_cost 4 + 3)) + 0)) (λ env. path_by env (bounds env)) word_code
        (With Beginning b) Looped
    word_at b few =
        let limit = b.0 + (b.1 - b.0) in
        along_fit (λ env s known. ap (path_by env) known.is)
        (gives
        (λ env s t fine known done.
        let m = done.middle in
        looped_by b env s t known.is
        (done.second.0, hidden_then z depth s m t (hidden_by z depth s m done.first.1) done.second.1))
        (quietly
        (weaken {P' = With Beginning b}
        {R = λ env s t. Guarded z (InWord limit) 5 6 (b.1 - b.0) b.0 env t × (t.bytes ≡ s.bytes)}
        (λ env s fine known. subst (λ (c : ℕ × ℕ). AtLoop z (Ready z) words (c.1 - c.0) c.0 env s) known.is known.given)
        (λ env s t fine known tested.
        let at' = subst (λ (c : ℕ × ℕ). AtLoop z (Ready z) words (c.1 - c.0) c.0 env s) known.is known.given in
        let counts = at'.counts in
        let small = counts.bound_small in (
          record {
            ready = ready_with z env s t at'.ready tested.held tested.same tested.homes;
            start = tested.six;
            any = tested.five;
            there = λ some.
                let e : counts.bound ≡ limit = omega (arith, some, counts.left_is) in (
                  ap (λ (bytes : ByteMap). number_at bytes 4 (z.frame + (words + 4))) tested.same
                      ∙ (counts.bound_there ∙ ap Some e),
                  omega (arith, small, e),
                );
          },
          tested.same,
        ))
        (test_runs z depth within (Ready z) (ready_starts z) (b.1 - b.0) b.0))
        (guarded_runs z depth x h known at 4 n limit (InWord limit) body (word_kept limit) (λ bytes there. there.1)
        (word_tests limit) unset inner (round_near _ word_test_length) 5 6 (omega arith) (omega arith) (omega arith)
        (omega arith) (b.1 - b.0) b.0 refl most few)
        (λ env s t known done. done.0)))

    pub to_word_runs : Runs z (16 * term_nodes low + 3 + (16 * term_nodes high + 3)
        + (7 + (2 + (3 + (iterations_cost 4 + 3)) + 0))) (λ env. path_at env (repeats x low high body))
        (bounds_code (layout_of z) words low high ++ word_code) (Ready z)
        (StateShown z depth (λ env. after env (repeats x low high body)))
    to_word_runs =
        gives
        (λ env s t fine ready done. record {
          ready = done.second.ready;
          hidden = hidden_then z depth s done.middle t done.first.1 done.second.hidden;
        })
        (seq (bounds_runs z depth within low high has_low has_high room_low room_high)
        (by_iterations z x low high word_at)
        (λ env s t ready begun. begun.0))
