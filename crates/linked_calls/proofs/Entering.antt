-- The entry: room above the frame, and in it the caller's registers that are kept, and at its end those of a0 to a7 that
-- are needed behind the body.
use Rattle.std.specs.Prelude.{take}
use Rattle.std.proofs.Common.{◌≡◌, ℕ, zero, suc, ◌+◌, ◌-◌, ◌*◌, ◌%◌, ◌^◌, ◌<◌, ◌≤◌, ◌==◌, List, []}
use Rattle.std.proofs.Common.{◌∷◌, ◌++◌, length, map, refl, sym, ap, ap₂, ◌∙◌, subst, arith, append_assoc, Bool, true, false}
use Rattle.std.proofs.Common.{if◌then◌else◌}
use Rattle.std.proofs.Math.Path.{fun_ext}
use Rattle.std.proofs.lemmas.Bool.{eqb-false, eqb-true, lt-ltb}
use Rattle.std.proofs.lemmas.Bool.Decides.{nat_tests}
use Rattle.expression_code.proofs.program_logic_lemmas.Counted.{as_code, computes_runs, in_steps, makes_then, no_code}
use Rattle.expression_code.proofs.program_logic_lemmas.Counted.{Runs, Setting}
use Rattle.expression_code.proofs.program_logic_lemmas.Counted.{weaken_runs}
use Rattle.linked_calls.proofs.Below.{above_code, added, AreData, argument_registers, ByteMap, Data, Instr, register}
use Rattle.linked_calls.proofs.Below.{is_some-with_numbers, register-at, sign_extended, stores_code, sum_of, with_numbers}
use Rattle.linked_calls.proofs.Below.{unwritten, with_register, with_result}
use Rattle.std.proofs.lemmas.List.{length-map}
use Rattle.linked_calls.proofs.KeptRegisters.{AreFitting, fitting_of, fitting_registers}
use Rattle.linked_calls.proofs.Parts.{MayStore, stored, stores_from, stores_length}

-- a0 to a7, without the last of them

taken_of_fitting : (n : ℕ) (rs : List ℕ) → AreFitting rs → AreFitting (take n rs)
taken_of_fitting zero rs fit = tt
taken_of_fitting (suc n) [] fit = tt
taken_of_fitting (suc n) (r ∷ rs) fit = (fit.0, fit.1, fit.2, fit.3, taken_of_fitting n rs fit.4)

taken_fitting : (n : ℕ) → AreFitting (take n argument_registers)
taken_fitting n = taken_of_fitting n argument_registers (fitting_of argument_registers refl)

-- what they hold is not changed by a write to x2
values_are : (regs : ℕ → ℕ) (low : ℕ) (rs : List ℕ) → AreFitting rs
    → map (λ r. register (with_register regs 2 low) r) rs ≡ map regs rs
values_are regs low [] fit = refl
values_are regs low (r ∷ rs) fit =
    ap₂ (λ v (vs : List ℕ). v ∷ vs)
    (register-at (with_register regs 2 low) r (λ e. omega (arith, fit.0)) ∙ unwritten regs 2 low r fit.2)
    (values_are regs low rs fit.4)

module _ (kept : List ℕ) (n : ℕ) where
  abbrev passed : List ℕ
  passed = take n argument_registers

  -- with numbers from one address on, and others from another
  abbrev pub with_both : ByteMap → ℕ → ℕ → List ℕ → List ℕ → ByteMap
  with_both bytes low high ks ps = with_numbers (with_numbers bytes 4 low ks) 4 high ps

  abbrev entered_with : ℕ → ℕ → Data → List ℕ → List ℕ → Data
  entered_with low high s ks ps = record { regs = with_register s.regs 2 low; bytes = with_both s.bytes low high ks ps }

  -- x2 is where the room above the frame begins; what is kept stands there, and the arguments higher up
  abbrev pub entered_bytes : ℕ → ℕ → Data → ByteMap
  entered_bytes low high s = with_both s.bytes low high (map s.regs kept) (map s.regs passed)

  abbrev pub entered : ℕ → ℕ → Data → Data
  entered low high s = record { regs = with_register s.regs 2 low; bytes = entered_bytes low high s }

  -- a register that gets what it holds
  as_before : (regs : ℕ → ℕ) (r v : ℕ) → regs r ≡ v → with_register regs r v ≡ regs
  as_before regs r v is = fun_ext (λ q. grind (arith, nat_tests))

  -- x2 goes down by so many bytes
  lowered : (x low above : ℕ) → x ≡ low + above → 0 < above → above ≤ 80 → x < 2 ^ 32
      → sum_of x (sign_extended 12 (4096 - above)) ≡ low
  lowered x low above is some few below = grind (arith, nat_tests)

  module _ (z : Setting) (low above : ℕ) (even : low % 16 ≡ 0) (whole : above % 16 ≡ 0)
      (least : 4 * (length kept + length passed) ≤ above) (most : above ≤ 80) (fit : AreFitting kept) (below : low + above < 2 ^ 32)
      (may : MayStore z low low (low + above)) {P : Data → Type 0}
      (begins : (s : Data) → P s → (s.regs 2 ≡ low + above) × AreData low (low + above) s.bytes) where
    abbrev first : ℕ
    first = above - 4 * length passed

    abbrev high : ℕ
    high = low + first

    abbrev code : List Instr
    code = above_code above ++ stores_code 2 0 kept ++ stores_code 2 first passed

    -- x2 is there, and the room is data
    record Lowered (s : Data) : Type 0 where
      stack : s.regs 2 ≡ low
      there : AreData low (low + above) s.bytes

    stores_runs : Runs z (length kept + length passed) (stores_code 2 0 kept ++ stores_code 2 first passed) Lowered
        (λ s t. t ≡ stored high passed (stored low kept s))
    stores_runs =
        let start : low + 0 ≡ low = omega arith in
        makes_then z {P = Lowered} {f = stored low kept}
        (in_steps z (stores_length 2 0 kept)
        (subst (λ a. Runs z (length (stores_code 2 0 kept)) (stores_code 2 0 kept) Lowered (λ s t. t ≡ stored a kept s)) start
        (stores_from z {P = Lowered} low 0 kept (fitting_registers kept fit) (omega arith) (omega arith) (omega arith)
        (λ x from to. may x (omega arith) (omega arith))
        (λ s has. (has.stack, λ x l h. has.there x (omega arith) (omega arith))))))
        (in_steps z (stores_length 2 first passed)
        (subst (λ a. Runs z (length (stores_code 2 first passed)) (stores_code 2 first passed) Lowered
        (λ s t. t ≡ stored a passed s)) refl
        (stores_from z {P = Lowered} low first passed (fitting_registers passed (taken_fitting n)) (omega arith)
        (omega arith) (omega arith) (λ x from to. may x (omega arith) (omega arith))
        (λ s has. (has.stack, λ x l h. has.there x (omega arith) (omega arith))))))
        (λ s has.
        let count = length-map kept (λ r. register s.regs r) in
        record {
          stack = has.stack;
          there = λ x l h.
              is_some-with_numbers s.bytes 4 low (map (λ r. register s.regs r) kept)
              (λ y from to. has.there y from (omega (arith, count))) x
              ∙ has.there x l h;
        })
        (λ s u has made. made)

    stored_are : (s : Data) → stored high passed (stored low kept (with_result 2 low s)) ≡ entered low high s
    stored_are s =
        ap₂ (λ (ks ps : List ℕ). entered_with low high s ks ps) (values_are s.regs low kept fit)
        (values_are s.regs low passed (taken_fitting n))

    -- x2 goes down, where anything stands above the frame
    down_runs : Runs z (length (above_code above)) (above_code above) P (λ s t. t ≡ with_result 2 low s)
    down_runs = by (above == 0) refl
      where
        by : (b : Bool) → above == 0 ≡ b
            → Runs z (length (if b then [] else added 2 (4096 - above) ∷ []))
            (if b then [] else added 2 (4096 - above) ∷ []) P (λ s t. t ≡ with_result 2 low s)
        by true is =
            no_code z
            (λ s given.
            let none = eqb-true above 0 is in
            ap (λ (regs : ℕ → ℕ). record { regs = regs; bytes = s.bytes })
            (sym (as_before s.regs 2 low (omega (arith, (begins s given).0)))))
        by false is =
            let some = eqb-false above 0 is in
            let down = 4096 - above in
            let small : down < 4096 = omega arith in
            weaken_runs z {P' = P}
            (computes_runs z (λ q. q == 2) (added 2 down ∷ [])
            (λ regs. with_register regs 2 (sum_of (regs 2) (sign_extended 12 down))) (simp (lt-ltb down 4096 small))
            (λ regs. refl))
            (λ s given. given)
            (λ s t given made.
            made
            ∙ ap (λ x. with_result 2 x s)
            (lowered (s.regs 2) low above (begins s given).0 (omega arith) most (omega (arith, (begins s given).0))))

    pub entry_runs : Runs z (length (above_code above) + (length kept + length passed)) code P
        (λ s t. t ≡ entered low high s)
    entry_runs =
        as_code z (sym (append_assoc (above_code above) (stores_code 2 0 kept) (stores_code 2 first passed)))
        (makes_then z {P = P} {P' = Lowered} {f = λ s. with_result 2 low s} down_runs stores_runs
        (λ s given. record { stack = refl; there = (begins s given).1 })
        (λ s u given made. made ∙ stored_are s))
