-- The iterations of a loop that counts in its counter's home from a number up to another. Before each iteration the home
-- has one less than the iteration's number, and all else is as the counter's last number shows it; behind the body,
-- which sets the counter nowhere, the home has the iteration's number.
use Rattle.std.proofs.Common.{◌≡◌, ℕ, suc, ◌+◌, ◌-◌, ◌*◌, ◌%◌, ◌^◌, ◌<◌, ◌≤◌, false, List, length, Some}
use Rattle.std.proofs.Common.{slice_get, refl, ap, sym, subst, ap₂, ◌∙◌, arith}
use Rattle.codegen.proofs.CountingRuns.{added, count_same, hidden_on, home_high, home_low, homes_compared, HoldsCount}
use Rattle.codegen.proofs.CounterStarts.{IsStart, Numbers}
use Rattle.codegen.proofs.CountingRuns.{HoldsNumber, iteration_is, number_there, one_sum}
use Rattle.codegen.proofs.Language.{word_as, iterations, path_of_iterations, counter_type, StraightBlock, StraightState}
use Rattle.codegen.proofs.Language.{counted, after_all, path_along, Path}
use Rattle.codegen.proofs.Logic.{nat_tests, Held, Setting, setting, Runs, quiet, quietly, weaken, gives, beside, Ready}
use Rattle.codegen.proofs.Logic.{Before, none, register-at}
use Rattle.codegen.proofs.Machine.{home_of, mirror_code, Instr, sign_extended, sum_of}
use Rattle.codegen.proofs.Slots.{StateShown, Hidden, hidden_then, hidden_by, ready_still, ready_with}
use Rattle.codegen.specs.private.Jumps.{again_code}
use Rattle.codegen.specs.private.Loops.{any_sets, begin_code, counted_code, last_number_code, iteration_code}
use Rattle.expression_code.specs.TermCode.{lower_part}
use Rattle.expression_code.proofs.program_logic_lemmas.Loops.{repeating}
use Rattle.rv_machine.specs.Machine as machine

-- Fields that are added.

-- less one
abbrev one_less : ℕ → ℕ
one_less n = sum_of n (2 ^ 32 - 1)

less_one : (n : ℕ) → n < 2048 → sum_of 0 (sign_extended 12 (lower_part (n + 4095))) ≡ one_less n
less_one n small = grind (arith, nat_tests, small)

more_again : (n : ℕ) → n < 2048 → sum_of (one_less n) 1 ≡ n
more_again n small = omega (arith, small)

-- less the last number
less_last : (last : ℕ) → last < 2048 → sign_extended 12 (lower_part (4096 - last)) ≡ (2 ^ 32 - last) % 2 ^ 32
less_last last small = grind (arith, nat_tests, small)

none_above : (i last : ℕ) → last < 2048 → i ≡ last → sum_of i ((2 ^ 32 - last) % 2 ^ 32) ≡ 0
none_above i last small is = omega (arith, small, is)

some_above : (i last : ℕ) → last < 2048 → i < last → sum_of i ((2 ^ 32 - last) % 2 ^ 32) ≡ 0 → ⊥
some_above i last small less is = omega (arith, small, less, is)

module _ (z : Setting) (depth x h : ℕ) (known : slice_get z.declared x ≡ Some (word_as counter_type false))
    (at : home_of z.allocation.homes x ≡ Some h) (last : ℕ) (small : last < 2048) {ys : List Instr} (n : ℕ)
    (body : StraightBlock) (unset : any_sets x body ≡ false)
    (inner : Runs z n (λ env. path_along env body) ys (Ready z)
    (StateShown z (depth + 1) (λ env. after_all env body)))
    (Start : Before) (starts : IsStart z Start) (numbers : Numbers z depth x h known at Start)
    (near : 2 * length (iteration_code h (mirror_code z.allocation x) last ys) ≤ 2 ^ 11) where
  abbrev one_iteration : ℕ → StraightState → StraightState
  one_iteration i env = after_all (counted x i env) body

  abbrev iteration_path : ℕ → StraightState → Path
  iteration_path i env = path_along (counted x i env) body

  abbrev iteration : List Instr
  iteration = iteration_code h (mirror_code z.allocation x) last ys

  -- the state is shown, and the words of the loops around are as they were
  abbrev Done : StraightState → machine.State → machine.State → Type 0
  Done env s t = Ready z env t × Hidden z depth s t

  -- the iteration of a number is next, and so many more: the home alone is not as it was, and has one less
  record Next (left i : ℕ) (env : StraightState) (s : machine.State) : Type 0 where
    before : machine.State
    starting : Start env before
    less : HoldsNumber z h (one_less i) before s
    ends : i + left ≡ last

  -- it is done, and a register has how much the home is above the last number
  record Iterated (left i : ℕ) (env : StraightState) (s t : machine.State) : Type 0 where
    ready : Ready z (one_iteration i env) t
    above : t.regs 5 ≡ sum_of i ((2 ^ 32 - last) % 2 ^ 32)
    ends : i + left ≡ last
    hidden : Hidden z (depth + 1) s t

  begins : (first : ℕ) → first < 2048
      → Runs z 1 none (begin_code h first) (Held z) (λ env s t. HoldsNumber z h (one_less first) s t)
  begins first few =
      let low = home_low z depth x h known at in
      let high = home_high z depth x h known at in
      gives
      (λ env s t fine held done. subst (λ v. HoldsNumber z h v s t) (less_one first few) done)
      (one_sum z h 0 (lower_part (first + 4095)) (omega (arith, low)) (omega (arith, high)) (omega arith) (omega arith))

  compares : Runs z 1 none (last_number_code 5 h last) (Held z)
      (λ env s t. HoldsNumber z 5 (sum_of (s.regs h) ((2 ^ 32 - last) % 2 ^ 32)) s t)
  compares =
      let low = home_low z depth x h known at in
      let high = home_high z depth x h known at in
      gives
      (λ env s t fine held done. subst (λ v. HoldsNumber z 5 v s t)
      (ap₂ sum_of (register-at s.regs h (λ e. omega (arith, low, e))) (less_last last small)) done)
      (one_sum z 5 h (lower_part (4096 - last)) (omega arith) (omega arith) (omega (arith, high)) (omega arith))

  -- the next number comes into the home
  next_number : (left i : ℕ) (env : StraightState) (s t : machine.State) → Next left i env s
      → HoldsCount z depth x h known at (sum_of (s.regs h) 1) s t → Ready z (counted x i env) t
  next_number left i env s t given done =
      let u = given.before in
      let less = given.less in
      let few : i < 2048 = omega (arith, given.ends, small) in
      let from_before : HoldsCount z depth x h known at (sum_of (s.regs h) 1) u t = record {
        middle = done.middle;
        first = record {
          held = done.first.held;
          there = done.first.there;
          same = done.first.same ∙ less.same;
          others = λ q apart. done.first.others q apart ∙ less.others q apart;
        };
        second = done.second;
      } in
      numbers (sum_of (s.regs h) 1) i (omega (arith, few)) env u t given.starting from_before
      (ap (λ a. sum_of a 1) less.there ∙ more_again i few)

  iteration_runs : (left i : ℕ) → Runs z (3 + (n + 1)) (iteration_path i) iteration (Next left i) (Iterated left i)
  iteration_runs left i =
      let low = home_low z depth x h known at in
      let high = home_high z depth x h known at in
      gives
      (λ env s t fine given done.
      let m = done.middle in
      let u = done.second.middle in
      let shown = done.second.first in
      let compared = done.second.second in
      let there = number_there z depth x h known at i (one_iteration i env) u
      (iteration_is z depth x h known at body unset i env) shown.ready in
      record {
        ready = ready_with z (one_iteration i env) u t shown.ready compared.held compared.same
            (homes_compared z (omega arith) compared);
        above = compared.there ∙ ap (λ a. sum_of a ((2 ^ 32 - last) % 2 ^ 32)) there;
        ends = given.ends;
        hidden = hidden_then z (depth + 1) s m t
            (hidden_by z (depth + 1) s m (count_same z depth x h known at done.first))
            (hidden_then z (depth + 1) m u t shown.hidden (hidden_by z (depth + 1) u t compared.same));
      })
      (quietly
      (weaken {P' = Next left i} (λ env s fine given. given.less.held) (λ env s t fine given done. done)
      (added z depth x h known at h 1 (omega (arith, low)) (omega (arith, high)) (omega arith)))
      (quiet (beside (counted x i) inner) compares (λ env s t given shown. shown.ready.held))
      (λ env s t given done. next_number left i env s t given done))

  abbrev Inv : ℕ → ℕ → StraightState → machine.State → machine.State → Type 0
  Inv left i env o s = Next left i env s × Hidden z depth o s

  all_iterations : (left i : ℕ)
      → Runs z ((left + 1) * (3 + (n + 1) + 1))
      (λ env. path_of_iterations (suc left) i one_iteration iteration_path env) (again_code 5 iteration)
      (λ env s. Inv left i env s s) (λ env s t. Done (iterations (suc left) i one_iteration env) s t)
  all_iterations left i =
      repeating {z = setting z} 5 0 (omega arith) (omega arith) {C = Next} {D = Iterated} iteration_path one_iteration
      Inv Done (omega arith) near
      (λ left i env o s inv. inv.0)
      (λ left i env o s t inv done e. some_above i last small (omega (arith, done.ends)) (sym done.above ∙ e))
      (λ i env o s t inv done. done.above ∙ none_above i last small (omega (arith, done.ends)))
      (λ left i env o s t u inv done still.
      let ready = ready_still z (one_iteration i env) t u done.ready still in
      let there = number_there z depth x h known at i (one_iteration i env) u
      (iteration_is z depth x h known at body unset i env) ready in (
        record {
          before = u;
          starting = starts.shown (one_iteration i env) u ready;
          less = record {
            held = ready.held;
            there = there ∙ omega (arith, done.ends, small);
            same = refl;
            others = λ q apart. refl;
          };
          ends = omega (arith, done.ends);
        },
        hidden_on z depth x h known at o s t u inv.1 done.hidden still,
      ))
      (λ i env o s t u inv done still. (
        ready_still z (one_iteration i env) t u done.ready still,
        hidden_on z depth x h known at o s t u inv.1 done.hidden still,
      ))
      iteration_runs left i

  -- one iteration more than so many, the first at this number
  abbrev Starting : ℕ → ℕ → ℕ → StraightState → machine.State → Type 0
  Starting first left i env s = Start env s × (first ≡ i) × (i + left ≡ last)

  pub counted_runs : (first : ℕ) → first < 2048 → (left i : ℕ)
      → Runs z (1 + (left + 1) * (3 + (n + 1) + 1))
      (λ env. path_of_iterations (suc left) i one_iteration iteration_path env)
      (counted_code h (mirror_code z.allocation x) first last ys) (Starting first left i)
      (λ env s t. Done (iterations (suc left) i one_iteration env) s t)
  counted_runs first few left i =
      gives
      (λ env s t fine given done.
      let m = done.middle in (
        done.second.0,
        hidden_then z depth s m t (hidden_by z depth s m done.first.same) done.second.1,
      ))
      (quietly
      (weaken {P' = Starting first left i} (λ env s fine given. starts.held env s given.0) (λ env s t fine given done. done)
      (begins first few))
      (all_iterations left i)
      (λ env s t given done. (
        record {
          before = s;
          starting = given.0;
          less = subst (λ v. HoldsNumber z h (one_less v) s t) given.1 done;
          ends = given.2;
        },
        λ o low high. refl,
      )))
