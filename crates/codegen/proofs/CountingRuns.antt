-- The iterations of a loop that counts in its counter's home. Before each iteration the home has the iteration's
-- number, as the counter has it; behind the body, which sets the counter nowhere, it still does, and one more is the
-- next number.
use Rattle.std.proofs.Common.{◌≡◌, ◌≢◌, ℕ, zero, suc, ◌+◌, ◌-◌, ◌*◌, ◌^◌, ◌<◌, ◌≤◌, ◌==◌, ◌&&◌, Bool, true, false, cond}
use Rattle.std.proofs.Common.{nat_lt, List, [], ◌∷◌, ◌++◌, length, Some, slice_get, slice_index, refl, sym, ap, ◌∙◌}
use Rattle.std.proofs.Common.{subst, arith, eq-eqb, length-append}
use Rattle.std.proofs.lemmas.Nat.{mul-le}
use Rattle.codegen.proofs.Language.{word_as, iterations, path_of_iterations, counter_type, StraightBlock, StraightState}
use Rattle.codegen.proofs.Language.{counted, after_all, path_along, Path, word_of}
use Rattle.codegen.proofs.Machine.{home_of, mirror_code, mirror_of, Instr, ByteMap, sign_extended, sum_of, Addi}
use Rattle.codegen.proofs.Logic.{Before, eqb-true, lt-ltb, nat_tests, Held, HeldAt, Setting, setting, base_of, Runs, Still}
use Rattle.codegen.proofs.Logic.{quiet, quietly, weaken, gives, cheaper, beside, idle, never, Ready, none, HomesKept}
use Rattle.codegen.proofs.Logic.{kept_by, is_free, none_low, computing_within, move_length, register-at, unwritten}
use Rattle.codegen.proofs.Logic.{written}
use Rattle.codegen.proofs.Slots.{StateShown, Hidden, hidden_then, hidden_less, hidden_by, ready_same, ready_still}
use Rattle.codegen.proofs.Slots.{ready_with}
use Rattle.codegen.proofs.Unset.{all_left_alone}
use Rattle.codegen.specs.Below.{register}
use Rattle.codegen.specs.private.Jumps.{again_code}
use Rattle.codegen.specs.private.Loops.{any_sets, guarded_code, iterations_code}
use Rattle.expression_code.specs.TermCode.{move_code}
use Rattle.expression_code.proofs.program_logic_lemmas.Computing.{computed_value, computes, written_register}
use Rattle.expression_code.proofs.program_logic_lemmas.Jumps.{first_runs, second_runs}
use Rattle.expression_code.proofs.program_logic_lemmas.Loops.{repeating}
use Rattle.expression_code.proofs.program_logic_lemmas.Pieces.{by_test}
use Rattle.rv_code.specs.declared.instructions.Instr.TheVariants as instr
use Rattle.rv_machine.specs.Machine as machine
use Rattle.codegen.proofs.Mirroring.{Mirrored, mirror_length, mirror_runs, ready_mirrored}

one_below : (a b : ℕ) → a < b → word_of (nat_lt a b) ≡ 1
one_below a b h = ap word_of (lt-ltb a b h)

zero_above : (a b : ℕ) → b ≤ a → word_of (nat_lt a b) ≡ 0
zero_above a b h = let e : nat_lt a b ≡ false = grind (arith, nat_tests) in ap word_of e

-- a register has a number, and nothing else has changed
pub record HoldsNumber (z : Setting) (h v : ℕ) (s t : machine.State) : Type 0 where
  pub held : HeldAt z t
  pub there : t.regs h ≡ v
  pub same : t.bytes ≡ s.bytes
  pub others : (q : ℕ) → q ≢ h → t.regs q ≡ s.regs q

-- so it has after one instruction that computes
pub one_computed : (z : Setting) (i : Instr) → computes is_free i ≡ true → written_register i ≢ 0
    → Runs z 1 none (i ∷ []) (Held z) (λ env s t. HoldsNumber z (written_register i) (computed_value i s.regs) s t)
one_computed z i plain some =
    gives
    (λ env s t fine held done. record {
      held = done.held;
      there = ap (λ (regs : ℕ → ℕ). regs (written_register i)) done.registers
          ∙ written s.regs (written_register i) _ some;
      same = done.same;
      others = λ q apart. ap (λ (regs : ℕ → ℕ). regs q) done.registers
          ∙ unwritten s.regs (written_register i) _ q apart;
    })
    (computing_within z is_free (i ∷ []) (ap (λ b. b && true) plain) none_low)

-- a field is added to a register
pub one_sum : (z : Setting) (d r field : ℕ) → 4 < d → d < 32 → r < 32 → field < 4096
    → Runs z 1 none (instr.Immediate Addi d r field ∷ []) (Held z)
    (λ env s t. HoldsNumber z d (sum_of (register s.regs r) (sign_extended 12 field)) s t)
one_sum z d r field low high few small =
    one_computed z (instr.Immediate Addi d r field)
    (simp (lt-ltb 4 d low, lt-ltb d 32 high, lt-ltb r 32 few, lt-ltb field 4096 small)) (λ e. omega (arith, low, e))

-- homes stay where a temporary is written
pub homes_compared : (z : Setting) {d v : ℕ} {s t : machine.State} → d < 8 → HoldsNumber z d v s t → HomesKept z s t
homes_compared z low done q home = done.others q (λ e. omega (arith, z.allocated.some, home.0, e, low))

-- the iteration of a number is next, and so many more, up to a limit that is found where it is
pub record Next (z : Setting) (x limit : ℕ) (There : ByteMap → Type 0) (left i : ℕ) (env : StraightState)
    (s : machine.State) : Type 0 where
  pub ready : Ready z (counted x i env) s
  pub there : There s.bytes
  pub last : i + left + 1 ≡ limit

-- so many iterations are left, from the number in a register on; another one says whether there are any
pub record Guarded (z : Setting) (There : ByteMap → Type 0) (b r left i : ℕ) (env : StraightState)
    (s : machine.State) : Type 0 where
  pub ready : Ready z env s
  pub start : s.regs r ≡ i
  pub any : s.regs b ≡ word_of (nat_lt 0 left)
  pub there : 0 < left → There s.bytes

module _ (z : Setting) (depth x h : ℕ) (known : slice_get z.declared x ≡ Some (word_as counter_type false))
    (at : home_of z.allocation.homes x ≡ Some h) where
  pub home_low : 7 < h
  home_low = let is = z.allocated.allowed x h at in let some = z.allocated.some in omega (arith, some, is.0)

  pub home_high : h < 28
  home_high = (z.allocated.allowed x h at).1

  -- the code by which the home's mirror follows it
  abbrev pub follow : List Instr
  follow = mirror_code z.allocation x

  pub follow_length : length follow ≤ 2
  follow_length = mirror_length (home_of z.allocation.homes x) (mirror_of z.allocation x)

  -- the home gets a number, and then its mirror follows it
  pub record HoldsCount (v : ℕ) (s t : machine.State) : Type 0 where
    pub middle : machine.State
    pub first : HoldsNumber z h v s middle
    pub second : Mirrored z x middle t

  pub count_there : {v : ℕ} {s t : machine.State} → HoldsCount v s t → t.regs h ≡ v
  count_there done =
      done.second.others h (λ e. omega (arith, home_high, e))
      (λ mirror is. z.allocated.mirror_apart x x h mirror is at)
      ∙ done.first.there

  pub count_same : {v : ℕ} {s t : machine.State} → HoldsCount v s t → t.bytes ≡ s.bytes
  count_same done = done.second.same ∙ done.first.same

  followed : {is : List Instr} {P : Before} (v : machine.State → ℕ)
      → Runs z 1 none is P (λ env s t. HoldsNumber z h (v s) s t)
      → Runs z 3 none (is ++ follow) P (λ env s t. HoldsCount (v s) s t)
  followed v runs =
      gives
      (λ env s t fine given done. record { middle = done.middle; first = done.first; second = done.second })
      (quiet runs (mirror_runs z x) (λ env s t given done. done.held))

  -- where the home gets a number, the counter has that, and nothing else that is shown changes
  pub numbered : {v w : ℕ} → w < 2 ^ 32 → (env : StraightState) (s t : machine.State) → Ready z env s
      → HoldsCount v s t → v ≡ w → Ready z (counted x w env) t
  numbered {w = w} small env s t ready done is =
      let m = done.middle in
      ready_mirrored z x h w counter_type false known at small env s m t ready
      (kept_by z (base_of z) s m done.first.same) (done.first.there ∙ is) (λ q home apart. done.first.others q apart)
      done.second

  -- a register and a field are added into the home alone
  one_added : (r field : ℕ) → 4 < r → r < 32 → field < 4096
      → Runs z 1 none (instr.Immediate Addi h r field ∷ []) (Held z)
      (λ env s t. HoldsNumber z h (sum_of (s.regs r) (sign_extended 12 field)) s t)
  one_added r field low few small =
      gives
      (λ env s t fine held done. subst (λ v. HoldsNumber z h v s t)
      (ap (λ a. sum_of a (sign_extended 12 field)) (register-at s.regs r (λ e. omega (arith, low, e)))) done)
      (one_sum z h r field (omega (arith, home_low)) (omega (arith, home_high)) few small)

  -- the number in a register comes into the home alone
  one_moved : (r : ℕ) → 4 < r → r < 32
      → Runs z 1 none (move_code h r) (λ env s. HeldAt z s × (s.regs r < 2 ^ 32))
      (λ env s t. HoldsNumber z h (s.regs r) s t)
  one_moved r low few =
      by_test (h == r)
      (λ e. idle (λ env s given. record {
        held = given.0;
        there = ap s.regs (eqb-true h r e);
        same = refl;
        others = λ q apart. refl;
      }))
      (λ e. weaken
      (λ env s fine given. given.0)
      (λ env s t fine given done.
      let sum : sum_of (s.regs r) 0 ≡ s.regs r = omega (arith, given.1) in
      subst (λ v. HoldsNumber z h v s t) sum done)
      (one_added r 0 low few (omega arith)))

  -- a register and a field are added into the home
  pub added : (r field : ℕ) → 4 < r → r < 32 → field < 4096
      → Runs z 3 none (instr.Immediate Addi h r field ∷ follow) (Held z)
      (λ env s t. HoldsCount (sum_of (s.regs r) (sign_extended 12 field)) s t)
  added r field low few small =
      followed (λ s. sum_of (s.regs r) (sign_extended 12 field)) (one_added r field low few small)

  -- the number in a register comes into the home
  pub moved_in : (r : ℕ) → 4 < r → r < 32
      → Runs z 3 none (move_code h r ++ follow) (λ env s. HeldAt z s × (s.regs r < 2 ^ 32))
      (λ env s t. HoldsCount (s.regs r) s t)
  moved_in r low few = followed (λ s. s.regs r) (one_moved r low few)

  -- the home has the number that the counter has
  pub number_there : (i : ℕ) (env : StraightState) (s : machine.State) → env.variables x ≡ i ∷ [] → Ready z env s
      → s.regs h ≡ i
  number_there i env s is ready = ready.homes_there x h (word_as counter_type false) known at
      ∙ ap (λ (l : List ℕ). slice_index l 0) is

  counted_is : (i : ℕ) (env : StraightState) → (counted x i env).variables x ≡ i ∷ []
  counted_is i env = ap (λ b. cond b (i ∷ []) (env.variables x)) (eq-eqb x x refl)

  -- the counter set again to what it was before
  counted_back : (i j : ℕ) (env : StraightState) → env.variables x ≡ i ∷ [] → (y : ℕ) (b : Bool) → (y == x) ≡ b
      → cond b (i ∷ []) (cond b (j ∷ []) (env.variables y)) ≡ env.variables y
  counted_back i j env is y true e = sym is ∙ ap env.variables (sym (eqb-true y x e))
  counted_back i j env is y false e = refl

  ready_back : (i j : ℕ) (env : StraightState) (s : machine.State) → env.variables x ≡ i ∷ []
      → Ready z (counted x i (counted x j env)) s → Ready z env s
  ready_back i j env s is ready =
      ready_same z (counted x i (counted x j env)) env s (λ y. counted_back i j env is y (y == x) refl) (λ c. refl)
      ready

  -- so it is behind an iteration whose body sets the counter nowhere
  pub iteration_is : (body : StraightBlock) → any_sets x body ≡ false → (i : ℕ) (env : StraightState)
      → (after_all (counted x i env) body).variables x ≡ i ∷ []
  iteration_is body unset i env = all_left_alone body x unset (counted x i env) ∙ counted_is i env

  -- the words of the loops around are as they were, behind one more iteration and a jump
  pub hidden_on : (o s t u : machine.State) → Hidden z depth o s → Hidden z (depth + 1) s t → Still t u
      → Hidden z depth o u
  hidden_on o s t u one two still =
      hidden_then z depth o s u one
      (hidden_then z depth s t u (hidden_less z depth (depth + 1) s t (omega arith) two)
      (hidden_by z depth t u still.bytes))

  -- A loop up to a limit, with a test that finds the limit where it is.
  module _ {test ys : List Instr} (c n limit : ℕ) (There : ByteMap → Type 0) (body : StraightBlock)
      (keeps : (s t : machine.State) → Hidden z (depth + 1) s t → There s.bytes → There t.bytes)
      (limited : (bytes : ByteMap) → There bytes → limit < 2 ^ 32)
      (tests : Runs z c none test (λ env s. HeldAt z s × There s.bytes)
      (λ env s t. HeldAt z t × (t.regs 5 ≡ word_of (nat_lt (s.regs h) limit)) × (t.bytes ≡ s.bytes)
      × HomesKept z s t))
      (unset : any_sets x body ≡ false)
      (inner : Runs z n (λ env. path_along env body) ys (Ready z)
      (StateShown z (depth + 1) (λ env. after_all env body)))
      (near : 2 * length (ys ++ (instr.Immediate Addi h h 1 ∷ (follow ++ test))) ≤ 2 ^ 11) where
    abbrev one_iteration : ℕ → StraightState → StraightState
    one_iteration i env = after_all (counted x i env) body

    abbrev iteration_path : ℕ → StraightState → Path
    iteration_path i env = path_along (counted x i env) body

    abbrev Iteration : ℕ → ℕ → StraightState → machine.State → Type 0
    Iteration left i env s = Next z x limit There left i env s

    -- it is done, the home has the next number, and a register whether that is below the limit
    record Iterated (left i : ℕ) (env : StraightState) (s t : machine.State) : Type 0 where
      ready : Ready z (counted x (i + 1) (one_iteration i env)) t
      there : There t.bytes
      last : i + left + 1 ≡ limit
      five : t.regs 5 ≡ word_of (nat_lt (i + 1) limit)
      hidden : Hidden z (depth + 1) s t

    round_runs : (left i : ℕ)
        → Runs z (n + (3 + c)) (iteration_path i) (ys ++ (instr.Immediate Addi h h 1 ∷ (follow ++ test))) (Iteration left i)
        (Iterated left i)
    round_runs left i =
        gives
        (λ env s t fine given done.
        let m = done.middle in
        let shown = done.first in
        let u = done.second.middle in
        let one = done.second.first in
        let two = done.second.second in
        let small = limited s.bytes given.there in
        let more : sum_of (m.regs h) 1 ≡ i + 1 =
        ap (λ a. sum_of a 1) (number_there i (one_iteration i env) m (iteration_is body unset i env) shown.ready)
        ∙ omega (arith, small, given.last) in
        let same : t.bytes ≡ m.bytes = two.2 ∙ count_same one in
        record {
          ready =
              ready_with z (counted x (i + 1) (one_iteration i env)) u t
              (numbered (omega (arith, small, given.last)) (one_iteration i env) m u shown.ready one more) two.0 two.2
              two.3;
          there = subst There (sym same) (keeps s m shown.hidden given.there);
          last = given.last;
          five = two.1 ∙ ap (λ v. word_of (nat_lt v limit)) (count_there one ∙ more);
          hidden = hidden_then z (depth + 1) s m t shown.hidden (hidden_by z (depth + 1) m t same);
        })
        (quiet
        (weaken {P' = Iteration left i} (λ env s fine given. given.ready) (λ env s t fine given done. done)
        (beside (counted x i) inner))
        (quiet
        (weaken {P' = λ env s. HeldAt z s × There s.bytes} (λ env s fine given. given.0)
        (λ env s t fine given done. done)
        (added h 1 (omega (arith, home_low)) (omega (arith, home_high)) (omega arith)))
        tests (λ env s t given done. (done.second.held, subst There (sym (count_same done)) given.1)))
        (λ env s t given shown. (shown.ready.held, keeps s t shown.hidden given.there)))

    abbrev Inv : ℕ → ℕ → StraightState → machine.State → machine.State → Type 0
    Inv left i env o s = Iteration left i env s × Hidden z depth o s

    -- the iterations are over: the home has one more than the last number
    record Over (env : StraightState) (o u : machine.State) : Type 0 where
      number : ℕ
      small : number + 1 < 2 ^ 32
      ready : Ready z (counted x (number + 1) env) u
      is : env.variables x ≡ number ∷ []
      hidden : Hidden z depth o u

    all_iterations : (left i : ℕ)
        → Runs z ((left + 1) * (n + (3 + c) + 1))
        (λ env. path_of_iterations (suc left) i one_iteration iteration_path env)
        (again_code 5 (ys ++ (instr.Immediate Addi h h 1 ∷ (follow ++ test)))) (λ env s. Inv left i env s s)
        (λ env s t. Over (iterations (suc left) i one_iteration env) s t)
    all_iterations left i =
        repeating {z = setting z} 5 0 (omega arith)
        (omega arith) {C = Iteration} {D = Iterated} iteration_path one_iteration Inv Over
        (omega (arith, length-append {A = Instr})) near
        (λ left i env o s inv. inv.0)
        (λ left i env o s t inv done e.
        omega (arith, sym done.five ∙ e, one_below (i + 1) limit (omega (arith, done.last))))
        (λ i env o s t inv done. done.five ∙ zero_above (i + 1) limit (omega (arith, done.last)))
        (λ left i env o s t u inv done still. (
          record {
            ready = ready_still z (counted x (i + 1) (one_iteration i env)) t u done.ready still;
            there = subst There (sym still.bytes) done.there;
            last = omega (arith, done.last);
          },
          hidden_on o s t u inv.1 done.hidden still,
        ))
        (λ i env o s t u inv done still. record {
          number = i;
          small = omega (arith, done.last, limited t.bytes done.there);
          ready = ready_still z (counted x (i + 1) (one_iteration i env)) t u done.ready still;
          is = iteration_is body unset i env;
          hidden = hidden_on o s t u inv.1 done.hidden still;
        })
        round_runs left i

    abbrev pub Finished : StraightState → machine.State → machine.State → Type 0
    Finished env s t = Ready z env t × Hidden z depth s t

    -- one iteration more than so many, the first at this number
    pub iterations_runs : (left i : ℕ)
        → Runs z ((left + 1) * (n + (3 + c) + 1) + 3)
        (λ env. path_of_iterations (suc left) i one_iteration iteration_path env)
        (iterations_code h follow test ys) (Iteration left i)
        (λ env s t. Finished (iterations (suc left) i one_iteration env) s t)
    iterations_runs left i =
        gives
        (λ env s t fine given done.
        let m = done.middle in
        let over = done.first in
        let e = iterations (suc left) i one_iteration env in
        let k = over.number in
        let less : sum_of (m.regs h) (2 ^ 32 - 1) ≡ k =
        ap (λ a. sum_of a (2 ^ 32 - 1)) (number_there (k + 1) (counted x (k + 1) e) m (counted_is (k + 1) e) over.ready)
        ∙ omega (arith, over.small) in (
          ready_back k (k + 1) e t over.is
              (numbered (omega (arith, over.small)) (counted x (k + 1) e) m t over.ready done.second less),
          hidden_then z depth s m t over.hidden (hidden_by z depth m t (count_same done.second)),
        ))
        (quiet
        (weaken {P' = Iteration left i} (λ env s fine given. (given, λ o low high. refl))
        (λ env s t fine given done. done) (all_iterations left i))
        (added h 4095 (omega (arith, home_low)) (omega (arith, home_high)) (omega arith))
        (λ env s t given over. over.ready.held))

    -- The number in a register comes into the home.

    abbrev Starting : ℕ → ℕ → StraightState → machine.State → Type 0
    Starting r i env s = Ready z env s × (s.regs r ≡ i) × There s.bytes

    arm_runs : (r left i : ℕ) → 4 < r → r < 32 → i + left + 1 ≡ limit
        → Runs z (3 + ((left + 1) * (n + (3 + c) + 1) + 3))
        (λ env. path_of_iterations (suc left) i one_iteration iteration_path env)
        ((move_code h r ++ follow) ++ iterations_code h follow test ys)
        (Starting r i)
        (λ env s t. Finished (iterations (suc left) i one_iteration env) s t)
    arm_runs r left i low few last =
        gives
        (λ env s t fine given done. (
          done.second.0,
          hidden_then z depth s done.middle t (hidden_by z depth s done.middle (count_same done.first)) done.second.1,
        ))
        (quietly
        (weaken {P' = Starting r i}
        (λ env s fine given. (given.0.held, omega (arith, limited s.bytes given.2, given.1, last)))
        (λ env s t fine given done. done) (moved_in r low few))
        (iterations_runs left i)
        (λ env s t given done. record {
          ready = numbered (omega (arith, limited s.bytes given.2, last)) env s t given.0 done given.1;
          there = subst There (sym (count_same done)) given.2;
          last = last;
        }))

    arm_near : (r : ℕ) → 2 * (length ((move_code h r ++ follow) ++ iterations_code h follow test ys) + 0) + 8 < 2 ^ 19
    arm_near r = omega (arith, near, length-append {A = Instr}, move_length h r, follow_length)

    pub guarded_runs : (b r : ℕ) → 4 < b → b < 32 → 4 < r → r < 32 → (left i : ℕ) → i + left ≡ limit → (k : ℕ)
        → left ≤ k
        → Runs z (2 + (3 + (k * (n + (3 + c) + 1) + 3)) + 0)
        (λ env. path_of_iterations left i one_iteration iteration_path env) (guarded_code b h follow r test ys)
        (Guarded z There b r left i)
        (λ env s t. Finished (iterations left i one_iteration env) s t)
    guarded_runs b r low high low' high' zero i last k few =
        second_runs {z = setting z} b high (λ e. omega (arith, low, e)) {a = none} {b = none}
        {P = Guarded z There b r 0 i} {P1 = λ env s. ⊥} {P2 = Ready z} {Q = Finished} {R = Finished} {S = Finished}
        (λ env. 0) (arm_near r)
        (λ env s given. given.any)
        (λ env s u some given still. some refl)
        (λ env s u v w some given still done back. absurd (some refl))
        (λ env s u none' given still. ready_still z env s u given.ready still)
        (λ env s u v none' given still done. (
          done.0,
          hidden_then z depth s u v (hidden_by z depth s u still.bytes) done.1,
        ))
        (never (λ env s bad. bad))
        (idle (λ env s ready. (ready, λ o from to. refl)))
        (λ env s given. refl)
    guarded_runs b r low high low' high' (suc left) i last k few =
        first_runs {z = setting z} b high (λ e. omega (arith, low, e)) {b = none} {P = Guarded z There b r (suc left) i}
        {P1 = Starting r i} {P2 = Ready z} {Q = λ env s t. Finished (iterations (suc left) i one_iteration env) s t}
        {R = Finished} {S = λ env s t. Finished (iterations (suc left) i one_iteration env) s t}
        (λ env. 1) (arm_near r)
        (λ env s given. given.any ∙ one_below 0 (suc left) (omega arith))
        (λ env s u some given still. (
          ready_still z env s u given.ready still,
          ap (λ (regs : ℕ → ℕ). regs r) still.regs ∙ given.start,
          subst There (sym still.bytes) (given.there (omega arith)),
        ))
        (λ env s u v w some given still done back. (
          ready_still z (iterations (suc left) i one_iteration env) v w done.0 back,
          hidden_then z depth s u w (hidden_by z depth s u still.bytes)
              (hidden_then z depth u v w done.1 (hidden_by z depth v w back.bytes)),
        ))
        (λ env s u none' given still. ready_still z env s u given.ready still)
        (λ env s u v none' given still done. absurd (omega (arith, none')))
        (cheaper
        (let e = mul-le (left + 1) (n + (3 + c) + 1) k (n + (3 + c) + 1) (omega (arith, few)) (omega arith) in
        omega (arith, e))
        (arm_runs r left i low' high' (omega (arith, last))))
        (idle (λ env s ready. (ready, λ o from to. refl)))
        (λ env s given e. omega (arith, e))
