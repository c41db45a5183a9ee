-- Two operands that are read one after the other: where the second comes into its register, the first stays in its own.
use Rattle.std.proofs.Common.{◌≡◌, ℕ, ◌+◌, ◌*◌, ◌≤◌, false, List, ◌++◌, ⊎_elim, ap, ◌∙◌, arith}
use Rattle.codegen.proofs.Language.{TermHasType, StraightState, TermTree, WordType, path_in, term_nodes, types_of}
use Rattle.codegen.proofs.Language.{value_in}
use Rattle.codegen.proofs.Logic.{base_of, home_beside, HomesKept, IsHome, Kept, nat_tests, place_target, Ready, gives}
use Rattle.codegen.proofs.Logic.{layout_of}
use Rattle.codegen.proofs.Logic.{ready_after, Runs, seq, Setting, Steps, steps_of, weaken, works_at}
use Rattle.codegen.proofs.Machine.{height_of, Instr, read_code, read_register, slots_to}
use Rattle.codegen.proofs.Slots.{hidden_kept, hidden_then, IsSourceRegister, read_runs, read_source, reads}
use Rattle.codegen.proofs.Slots.{ready_valued, StateShown}
use Rattle.rv_machine.specs.Machine as machine

-- the register of the first temporary stays where a value comes into that of the second
first_beside : (count : ℕ) → works_at count 1 6 5 ≡ false
first_beside count = grind (arith, nat_tests)

-- the first operand is in its register
pub record FirstRead (z : Setting) (first : TermTree) (env : StraightState) (s : machine.State) : Type 0 where
  pub ready : Ready z env s
  pub there : s.regs (read_register z.allocation 5 first) ≡ value_in env.variables first

-- an expression, read where it is, and then code that finds it there: both together show what that code shows
pub read_then : (z : Setting) (depth : ℕ) → depth ≤ z.depths → {e : TermTree} {word : WordType} {n : ℕ} {steps : Steps}
    {code : List Instr} {change : StraightState → StraightState}
    → TermHasType (types_of z.code.profile z.declared) e word
    → base_of z + 4 * slots_to z.allocation.count (height_of e) ≤ z.size
    → Runs z n steps code (FirstRead z e) (StateShown z depth change)
    → Runs z (16 * term_nodes e + n) (λ env. path_in env.variables e ++ steps env)
    (read_code (layout_of z) 5 0 e ++ code) (Ready z) (StateShown z depth change)
read_then z depth within {e = e} has room runs =
    gives
    (λ env s t fine ready done. record {
      ready = done.second.ready;
      hidden = hidden_then z depth s done.middle t (hidden_kept z depth s done.middle within done.first.kept)
          done.second.hidden;
    })
    (seq (read_runs z has room) runs
    (λ env s t ready done. record { ready = ready_valued z e env s t ready done; there = done.there }))

-- both are in theirs
pub record BothRead (z : Setting) (first second : TermTree) (env : StraightState) (s t : machine.State) : Type 0 where
  pub ready : Ready z env t
  pub first_there : t.regs (read_register z.allocation 5 first) ≡ value_in env.variables first
  pub second_there : t.regs (read_register z.allocation 6 second) ≡ value_in env.variables second
  pub kept : Kept z (base_of z) s t

module _ (z : Setting) (first second : TermTree) where
  abbrev first_register : ℕ
  first_register = read_register z.allocation 5 first

  first_source : IsSourceRegister z 5 first_register
  first_source = read_source z first 5 (omega arith) (omega arith)

  first_stays : works_at z.allocation.count 1 6 first_register ≡ false
  first_stays =
      ⊎_elim
      (λ (is : first_register ≡ 5). ap (works_at z.allocation.count 1 6) is ∙ first_beside z.allocation.count)
      (λ (home : IsHome z.allocation.count first_register).
      home_beside z.allocation.count 1 6 first_register home.0 home.1 (λ e. omega (arith, z.allocated.some, home.0, e)))
      first_source.is

  pub second_runs : {word : WordType} → TermHasType (types_of z.code.profile z.declared) second word
      → base_of z + 4 * slots_to z.allocation.count (height_of second + 1) ≤ z.size
      → Runs z (16 * term_nodes second) (steps_of second) (read_code (layout_of z) 6 1 second)
      (FirstRead z first) (BothRead z first second)
  second_runs has room =
      let some = z.allocated.some in
      let count = z.allocation.count in
      weaken {P' = FirstRead z first}
      (λ env s fine given. given.ready)
      (λ env s t fine given done.
      let homes : HomesKept z s t =
      λ r home. done.lower r (home_beside count 1 6 r home.0 home.1 (λ e. omega (arith, some, home.0, e))) in
      record {
        ready = ready_after z env s t given.ready done.held done.kept homes;
        first_there = done.lower first_register first_stays ∙ given.there;
        second_there = done.there;
        kept = done.kept;
      })
      (reads z 6 1 (place_target count 1 z.allocated.few (omega (arith, some))) has room)
