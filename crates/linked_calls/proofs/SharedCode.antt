-- A call of code that other code of the function shares: a jump there that leaves in x30 where it goes back to, and a jump
-- back at its end.
use Rattle.std.proofs.Common.{◌≡◌, ℕ, ◌+◌, ◌-◌, ◌*◌, ◌/◌, ◌%◌, ◌^◌, ◌<◌, Bool, true, false, cond, List, [], ◌∷◌, ◌++◌}
use Rattle.std.proofs.Common.{length, None, refl, sym, ap, ap₂, ◌∙◌, subst, arith}
use Rattle.std.proofs.Math.Path.{fun_ext}
use Rattle.std.proofs.lemmas.Bool.Decides.{nat_tests}
use Rattle.expression_code.proofs.program_logic_lemmas.Counted.{Runs, Setting, setting}
use Rattle.expression_code.proofs.program_logic_lemmas.Jumps.{shown_at}
use Rattle.expression_code.proofs.program_logic_lemmas.Pieces.{ends_to, step_ends, then_ends}
use Rattle.expression_code.proofs.program_logic_lemmas.PlacedLaws.{Placed-left, Placed-right, stands}
use Rattle.expression_code.specs.program_logic.MachineSteps.{exactly}
use Rattle.expression_code.specs.program_logic.Pieces.{always, both, Ends}
use Rattle.expression_code.specs.program_logic.StraightCode.{contents_of}
use Rattle.linked_calls.proofs.Below.{ByteMap, Data, Instr, JumpRegister, near_address, next, Placed, register_target}
use Rattle.linked_calls.proofs.Below.{sign_extended, State, sum_of, with_link, with_register, with_result}
use Rattle.linked_calls.proofs.PlacedRuns.{RunsHere, RunsTo}
use Rattle.linked_calls.specs.Below.{Jump}
use Rattle.linked_calls.specs.Calls.{Reaches}
use Rattle.linked_calls.specs.FunctionCode.{call_code, onward_code}
use Rattle.rv_machine.proofs.InstructionSteps.{jump_leads, jump_register_leads, with_link-bytes, with_link-pc, with_link-regs}
use Rattle.rv_machine.specs.Effects.{jump_target}

-- a jump over so many instructions
forward : (p count : ℕ) → 2 * count + 2 < 2 ^ 19 → p + 4 + 4 * count < 2 ^ 32
    → jump_target p (2 * count + 2) ≡ p + 4 + 4 * count
forward p count near below = grind (arith, nat_tests)

-- a jump to what stands within reach, before it or behind it
within_reach : (from to : ℕ) → Reaches from to → from % 4 ≡ 0 → to % 4 ≡ 0 → from < 2 ^ 32 → to < 2 ^ 32
    → jump_target from ((to + 2 ^ 32 - from) % 2 ^ 32 / 2 % 2 ^ 20) ≡ to
within_reach from to reaches even even' below below' = grind (arith, nat_tests, reaches.0, reaches.1)

-- a link that is put into x0 is none
either : (b : Bool) (v x : ℕ) → cond b x (cond b v x) ≡ x
either true v x = refl
either false v x = refl

dropped : (regs : ℕ → ℕ) (v : ℕ) → with_register regs 0 v ≡ regs
dropped regs v = fun_ext (λ r. grind (arith, nat_tests))

target_is : (regs : ℕ → ℕ) (target : ℕ) → regs 30 ≡ target → target < 2 ^ 32 → target % 4 ≡ 0
    → register_target regs 30 0 ≡ target
target_is regs target is below even =
    let e : sum_of (regs 30) (sign_extended 12 0) ≡ regs 30 + 0 = near_address (regs 30) 0 (omega arith) (omega arith) in
    omega arith

same_contents : (regs : ℕ → ℕ) (bytes : ByteMap) (t : State) → t.regs ≡ regs → t.bytes ≡ bytes
    → contents_of t ≡ record { regs = regs; bytes = bytes }
same_contents regs bytes t one other =
    ap₂ (λ (r : ℕ → ℕ) (b : ByteMap). contents_of (record { pc = 0; regs = r; bytes = b })) one other

module _ (z : Setting) where
  -- the jump there
  call_ends : (p count : ℕ) → Placed z.code p (call_code count ∷ []) → 2 * count + 2 < 2 ^ 19 → p + 4 + 4 * count < 2 ^ 32
      → (s : State) (rest : List ⊥) → s.pc ≡ p
      → Ends exactly (setting z) 1 (p + 4 + 4 * count) (always (shown_at p)) rest rest
      (λ t. contents_of t ≡ with_result 30 (p + 4) (contents_of s)) s
  call_ends p count placed near below s rest at =
      let halves = (2 * count + 2) % 2 ^ 20 in
      let all : halves ≡ 2 * count + 2 = omega arith in
      let there : jump_target s.pc halves ≡ p + 4 + 4 * count =
      ap₂ (λ q h. jump_target q h) at all ∙ forward p count near below in
      let linked : next s ≡ p + 4 = omega arith in
      let t = with_link s 30 (jump_target s.pc halves) in
      step_ends None None t at
      (jump_leads z.code s 30 halves (stands z.code p (call_code count) [] placed (omega arith, omega arith) s at)
      (ap (λ q. q % 4) there ∙ omega (arith, placed.0))) refl (z.silent (s.regs 2)) refl
      (with_link-pc s 30 (jump_target s.pc halves) ∙ there)
      (same_contents (with_register s.regs 30 (p + 4)) s.bytes t
      (with_link-regs s 30 (jump_target s.pc halves) ∙ ap (λ v. with_register s.regs 30 v) linked)
      (with_link-bytes s 30 (jump_target s.pc halves)))

  -- and back
  back_ends : (q target : ℕ) → Placed z.code q (JumpRegister 0 30 0 ∷ []) → target < 2 ^ 32 → target % 4 ≡ 0
      → (s : State) (rest : List ⊥) → s.pc ≡ q → s.regs 30 ≡ target
      → Ends exactly (setting z) 1 target (always (shown_at q)) rest rest (λ t. contents_of t ≡ contents_of s) s
  back_ends q target placed below even s rest at link =
      let there = target_is s.regs target link below even in
      let t = with_link s 0 (register_target s.regs 30 0) in
      step_ends None None t at
      (jump_register_leads z.code s 0 30 0
      (stands z.code q (JumpRegister 0 30 0) [] placed (omega arith, omega arith, omega arith) s at)
      (ap (λ x. x % 4) there ∙ even)) refl (z.silent (s.regs 2)) refl
      (with_link-pc s 0 (register_target s.regs 30 0) ∙ there)
      (same_contents s.regs s.bytes t
      (with_link-regs s 0 (register_target s.regs 30 0) ∙ dropped s.regs (next s))
      (with_link-bytes s 0 (register_target s.regs 30 0)))

  -- on to code that stands within reach
  pub onward_runs : {P : Data → Type 0} (from to : ℕ) → Reaches from to
      → Placed z.code from (onward_code ((to + 2 ^ 32 - from) % 2 ^ 32) ∷ []) → to % 4 ≡ 0 → to < 2 ^ 32
      → RunsTo z from to 1 P (λ s t. t ≡ s)
  onward_runs from to reaches placed even below =
      let halves = (to + 2 ^ 32 - from) % 2 ^ 32 / 2 % 2 ^ 20 in
      let there = within_reach from to reaches placed.0 even (omega (arith, placed.1)) below in
      record {
        leak = always (shown_at from);
        runs = λ s rest at given.
            let here : jump_target s.pc halves ≡ to = ap (λ p. jump_target p halves) at ∙ there in
            let t = with_link s 0 (jump_target s.pc halves) in
            step_ends None None t at
            (jump_leads z.code s 0 halves
            (stands z.code from (Jump 0 halves) [] placed (omega arith, omega arith) s at)
            (ap (λ q. q % 4) here ∙ even)) refl (z.silent (s.regs 2)) refl
            (with_link-pc s 0 (jump_target s.pc halves) ∙ here)
            (same_contents s.regs s.bytes t
            (with_link-regs s 0 (jump_target s.pc halves) ∙ dropped s.regs (next s))
            (with_link-bytes s 0 (jump_target s.pc halves)));
      }

  -- the shared code stands so many instructions behind the call
  pub call_runs : {n : ℕ} {body : List Instr} {P P' : Data → Type 0} {R S : Data → Data → Type 0} (p count : ℕ)
      → Placed z.code p (call_code count ∷ []) → 2 * count + 2 < 2 ^ 19
      → Placed z.code (p + 4 + 4 * count) (body ++ JumpRegister 0 30 0 ∷ [])
      → Runs z n body P R
      → ((s : Data) → P' s → P (with_result 30 (p + 4) s))
      → ((s t : Data) → P' s → R (with_result 30 (p + 4) s) t → t.regs 30 ≡ p + 4)
      → ((s t : Data) → P' s → R (with_result 30 (p + 4) s) t → S s t)
      → RunsHere z p (1 + (n + 1)) (call_code count ∷ []) P' S
  call_runs {n = n} {body = body} {P = P} {R = R} p count placed near shared one before linked behind =
      let q = p + 4 + 4 * count in
      let return = JumpRegister 0 30 0 ∷ [] in
      let last = Placed-right z.code q body return shared in
      let piece = one.piece.placed_at q (Placed-left z.code q body return shared) in
      record {
        piece = record {
          leak = both (always (shown_at p)) (both piece.leak (always (shown_at (q + 4 * length body))));
          runs = λ env s rest at fine given.
              then_ends
              (call_ends p count placed near (omega (arith, last.1)) s rest at)
              (λ t there called.
              let given' = subst P (sym called) (before (contents_of s) given) in
              then_ends (piece.runs env t rest there tt given')
              (λ u behind' done.
              let done' = subst (λ (c : Data). R c (contents_of u)) called done in
              ends_to
              (back_ends (q + 4 * length body) (p + 4) last placed.1 (omega (arith, placed.0)) u rest behind'
              (linked (contents_of s) (contents_of u) given done'))
              refl
              (λ v same.
              behind (contents_of s) (contents_of v) given
              (subst (λ (c : Data). R (with_result 30 (p + 4) (contents_of s)) c) (sym same) done'))));
        };
      }
