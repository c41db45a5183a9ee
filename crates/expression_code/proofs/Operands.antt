-- Temporaries: how an operator's are fetched, worked on and kept.
use Rattle.std.proofs.Common.{inl, inr, ◌≡◌, ◌≢◌, ℕ, ◌+◌, ◌*◌, ◌%◌, ◌^◌, ◌<◌, ◌≤◌, Bool, true, false, nat_lt, List, []}
use Rattle.std.proofs.Common.{◌∷◌, length, Some, refl, ap, ap₂, ◌∙◌, subst, arith, ne_eqb}
use Rattle.expression_code.proofs.Below.{Allocation, along, BinaryOperator, cheaper, cut_code}
use Rattle.expression_code.proofs.Below.{divide_value, divided, DivideOperation, emitted_operator}
use Rattle.expression_code.proofs.Below.{IsWithinKind, Profile, WordType, fetch_code, gives, idle}
use Rattle.expression_code.proofs.Below.{InRegister, InSlot, Instr, keep_code, Location, lt-ltb}
use Rattle.expression_code.proofs.Below.{ltb-false, marks_of, multiply_value, none, number_at}
use Rattle.expression_code.proofs.Below.{number_or_zero, only_computes, operand, operated, operator_code}
use Rattle.expression_code.proofs.Below.{Place, quiet, register_left, register_of, registers_after}
use Rattle.expression_code.proofs.Below.{row_of, slot_of, slots_to, State, StraightState, temporary}
use Rattle.expression_code.proofs.Below.{TermTree, weaken, Width, with_number, working_register}
use Rattle.expression_code.specs.Below.{byte_count, Divide, Divu, HighProduct, Makes, Mul, Mulhu, Multiply}
use Rattle.expression_code.specs.Below.{operation_of}
use Rattle.expression_code.specs.Below.{Remainder, Remu}
use Rattle.expression_code.specs.Below.{store_size, StoreOperation, Sw}
use Rattle.rv_code.specs.declared.instructions.Instr.TheVariants as instr
use Rattle.expression_code.proofs.Events.{Moves, multiplying, dividing}
use Rattle.expression_code.proofs.Frame.{Setting, Steps, Before, Runs, HeldAt, held_regs, terms_at}
use Rattle.expression_code.proofs.WorkRegisters.{IsFree, ArePair, at_operand, not_written}
use Rattle.expression_code.proofs.Moves.{take, put, Moved, move_runs, is_written, is_left}
use Rattle.expression_code.proofs.Moves.{computing_within}
use Rattle.expression_code.proofs.OperatorCode.{is_plain, cut_plain, operator_plain, operator_made}
use Rattle.expression_code.proofs.OperatorCode.{product_made}
use Rattle.expression_code.proofs.TermLengths.{narrow_length, operator_length}
use Rattle.expression_code.proofs.BoolCode.{emitted_marks, emitted_same}
use Rattle.expression_code.proofs.Values.{Kept, Leaves, Holds, Wrote, wrote_kept, wrote_there}
use Rattle.std.proofs.lemmas.Bool.{cases_Bool, cond_both}

-- a temporary is in a register, and only a spare register has changed
pub record Fetched (z : Setting) (r spare v : ℕ) (s t : State) : Type 0 where
  pub held : HeldAt z t
  pub there : t.regs r ≡ v
  pub others : (q : ℕ) → q ≢ spare → t.regs q ≡ s.regs q
  pub same : t.bytes ≡ s.bytes

-- a slot's word in a register, and nothing else
pub took : (z : Setting) (r o v : ℕ) (env : StraightState) (s t : State) → r ≢ 0
    → number_at s.bytes 4 (z.frame + o) ≡ Some v → Moved z (take r o ∷ []) env s t → Fetched z r r v s t
took z r o v env s t nonzero there moved =
    assumption (is_written s.regs r _ moved.regs nonzero ∙ ap number_or_zero there, is_left s.regs r _ moved.regs)

-- a register's low bytes in the frame, and nothing else
pub put_wrote : (z : Setting) (operation : StoreOperation) (r o v : ℕ) (env : StraightState) (s t : State)
    → s.regs r ≡ v → Moved z (put operation r o ∷ []) env s t → Wrote z (byte_count (store_size operation)) o v s t
put_wrote z operation r o v env s t is moved = record {
  held = moved.held;
  written = moved.bytes ∙ ap (λ w. with_number s.bytes (byte_count (store_size operation)) (z.frame + o) w) is;
  homes = λ q home. is_left s.regs 28 _ moved.regs q (omega arith);
}

-- a register has this value, and neither the registers that do not work nor any byte has changed
pub record RegisterOutcome (z : Setting) (works : ℕ → Bool) (d v : ℕ) (s t : State) : Type 0 where
  pub held : HeldAt z t
  pub there : t.regs d ≡ v
  pub others : Leaves works s t
  pub same : t.bytes ≡ s.bytes

-- a slot lies in the frame, and is aligned
abbrev pub HasRoom : Setting → Location → Type 0
HasRoom z (InRegister r) = Unit {0}
HasRoom z (InSlot o) = (o % 4 ≡ 0) × (o + 4 ≤ z.size)

-- A word is fetched from where it is.
module _ (z : Setting) (spare : ℕ) (low : 4 < spare) (high : spare < 32) (v : StraightState → ℕ) where
  pub fetch_runs : (l : Location) → HasRoom z l
      → Runs z 3 none (fetch_code l spare) (λ env s. HeldAt z s × Holds z l s (v env))
      (λ env s t. Fetched z (register_of l spare) spare (v env) s t)
  fetch_runs (InRegister r) room =
      idle (λ env s given. assumption)
  fetch_runs (InSlot o) room =
      weaken
      (λ env s fine given. given.0)
      (λ env s t fine given moved. took z spare o (v env) env s t (omega arith) given.1 moved)
      (move_runs z (take spare o) (simp (lt-ltb 4 spare (omega arith), lt-ltb spare 32 high)) room)

-- A temporary in a place, where its slot lies in the frame.
module _ (z : Setting) (free : ℕ) (aligned : free % 4 ≡ 0) (place : ℕ)
    (room : free + 4 * slots_to z.allocation.count place ≤ z.size) where
  abbrev count : ℕ
  count = z.allocation.count

  pub operand_room : (e : TermTree) → HasRoom z (operand (terms_at z free) place e)
  operand_room =
      at_operand (terms_at z free) z.allocated place (HasRoom z)
      (cond_both (nat_lt place count) (InRegister (5 + place)) (InSlot (slot_of count free place)) (HasRoom z) (λ h. tt)
      (λ h. (omega arith, omega (arith, room, ltb-false _ _ h))))
      (λ home is. tt)

  -- what is in the register of a place is kept there
  module _ (v : StraightState → ℕ) where
    pub keep_runs : Runs z 3 none (keep_code (temporary count free place)) (λ env s. HeldAt z s
        × (s.regs (working_register count place 29) ≡ v env) × (v env < 2 ^ 32))
        (λ env s t. HeldAt z t × Holds z (temporary count free place) t (v env)
        × Kept z (slot_of count free place) s t × ((q : ℕ) → q ≢ 28 → t.regs q ≡ s.regs q))
    keep_runs =
        let k = slot_of count free place in
        elim (cases_Bool (nat_lt place count)) [
          | inl h ↦ rw h (idle (λ env s given. assumption))
          | inr h ↦ rw h
              (weaken
              (λ env s fine given. given.0)
              (λ env s t fine given moved.
              let wrote : Wrote z 4 k (v env) s t = put_wrote z Sw 29 k (v env) env s t given.1 moved in
              assumption (
                wrote_there z k (v env) s t wrote given.2,
                wrote_kept z 4 k (v env) s t wrote,
                is_left s.regs 28 _ moved.regs,
              ))
              (move_runs z (put Sw 29 k) refl (omega arith, omega (arith, ltb-false _ _ h))))
        ]

-- Code that writes registers that work.
module _ (z : Setting) (works : ℕ → Bool) (none_low : (q : ℕ) → q < 5 → works q ≡ false) where
  -- code that only computes
  pub worked : {P : Before} (d : ℕ) (is : List Instr) → only_computes works is ≡ true → (v : StraightState → ℕ)
      → ((env : StraightState) (s : State) → P env s → HeldAt z s × (registers_after is s.regs d ≡ v env))
      → Runs z (length is) none is P (λ env s t. RegisterOutcome z works d (v env) s t)
  worked d is plain v value =
      weaken
      (λ env s fine given. (value env s given).0)
      (λ env s t fine given done.
      let others : Leaves works s t = λ q other. ap (λ (regs : ℕ → ℕ). regs q) done.registers
      ∙ register_left works is s.regs q plain other in
      assumption (ap (λ (regs : ℕ → ℕ). regs d) done.registers ∙ (value env s given).1))
      (computing_within z works is plain none_low)

  -- An operator between two operands, in l and r, into d, which may write t.
  module _ {d t l r : ℕ} (pair : ArePair d t) (first : IsFree l) (second : IsFree r) (apart : l ≢ t)
      (wd : works d ≡ true) (wt : works t ≡ true) where
    pub record OperandsHeld (a b : StraightState → ℕ) (env : StraightState) (s : State) : Type 0 where
      pub held : HeldAt z s
      pub left : s.regs l ≡ a env
      pub right : s.regs r ≡ b env
      pub left_fits : a env < 2 ^ 32
      pub right_fits : b env < 2 ^ 32

    module _ (source : Place) (width : Width) (a b : StraightState → ℕ) where
      abbrev Operated : BinaryOperator → StraightState → State → State → Type 0
      Operated operator env s u = RegisterOutcome z works d (operated operator width (a env) (b env)) s u

      plainly : (operator : BinaryOperator) → is_plain (row_of operator).step ≡ true
          → Runs z 4 none (operator_code d t l r operator width) (OperandsHeld a b) (Operated operator)
      plainly operator alone =
          cheaper (operator_length d t l r operator width)
          (worked d (operator_code d t l r operator width)
          (operator_plain pair works wd wt second first operator width alone)
          (λ env. operated operator width (a env) (b env))
          (λ env s given. (
            given.held,
            operator_made pair second first apart operator width alone s.regs (omega arith) (omega arith)
                ∙ ap₂ (operated operator width) given.left given.right,
          )))

      -- an instruction that shows its operands, and then code that only computes
      shown : {steps : Steps} {i : Instr} (v w : StraightState → ℕ) (rest : List Instr)
          → only_computes works rest ≡ true
          → Runs z 1 steps (i ∷ []) (λ env s. (s.regs l ≡ a env) × (s.regs r ≡ b env))
          (λ env s u. Moves z d (v env) s u)
          → ((env : StraightState) (regs : ℕ → ℕ) → a env < 2 ^ 32 → b env < 2 ^ 32 → regs d ≡ v env
          → registers_after rest regs d ≡ w env)
          → Runs z (1 + length rest) steps (i ∷ rest) (OperandsHeld a b)
          (λ env s u. RegisterOutcome z works d (w env) s u)
      shown v w rest plain one value =
          gives
          (λ env s u fine given done.
          let others : Leaves works s u = λ q other.
          done.second.others q other ∙ done.first.others q (not_written works q d other wd) in
          assumption (done.second.same ∙ done.first.same))
          (quiet
          (weaken (λ env s fine given. assumption) (λ env s u fine given moves. moves) one)
          (worked {P = λ env s. HeldAt z s × (registers_after rest s.regs d ≡ w env)} d rest plain w
          (λ env s given. given))
          (λ env s u given moves. (
            held_regs z s u (moves.others 2 (omega arith)) moves.same given.held,
            value env u.regs given.left_fits given.right_fits moves.there,
          )))

      -- a division by what the path says is not 0
      quotient : (operator : BinaryOperator) (operation : DivideOperation)
          → ((env : StraightState) → 0 < b env
          → divide_value operation (a env) (b env) ≡ operated operator width (a env) (b env))
          → Runs z 4 (λ env. divided source (a env) (b env) ∷ []) (instr.Divide operation d l r ∷ []) (OperandsHeld a b)
          (Operated operator)
      quotient operator operation same =
          let v = λ (env : StraightState). divide_value operation (a env) (b env) in
          cheaper (omega arith)
          (gives (λ env s u fine given done. subst (λ w. RegisterOutcome z works d w s u) (same env fine.0) done)
          (shown v v [] refl (dividing z pair.one first second source a b operation) (λ env regs left right is. is)))

      pub operator_runs : (operator : BinaryOperator)
          → Runs z 4 (λ env. marks_of source operator (a env) (b env)) (operator_code d t l r operator width)
          (OperandsHeld a b) (Operated operator)
      operator_runs Divide =
          quotient Divide Divu (λ env some. rw (ne_eqb (b env) 0 (omega arith)))
      operator_runs Remainder =
          quotient Remainder Remu (λ env some. rw (ne_eqb (b env) 0 (omega arith)))
      operator_runs Multiply =
          cheaper (omega (arith, narrow_length d d width))
          (shown (λ env. multiply_value Mul (a env) (b env)) (λ env. operated Multiply width (a env) (b env))
          (cut_code d width) (cut_plain pair works wd wt width)
          (multiplying z pair.one first second a b Mul)
          (λ env regs left right is. product_made pair width regs (a env) (b env) is))
      operator_runs HighProduct =
          cheaper (omega arith)
          (shown (λ env. multiply_value Mulhu (a env) (b env)) (λ env. multiply_value Mulhu (a env) (b env))
          [] refl (multiplying z pair.one first second a b Mulhu) (λ env regs left right is. is))
      operator_runs operator = plainly operator refl

      -- and that of the operator whose code is emitted in its place
      pub emitted_runs : (allocation : Allocation) {profile : Profile} {one other whole : WordType}
          (operator : BinaryOperator) → Makes profile (operation_of operator) one other whole
          → Runs z 4 (λ env. marks_of source operator (a env) (b env))
          (operator_code d t l r (emitted_operator allocation operator) width)
          (λ env s. OperandsHeld a b env s × IsWithinKind one.kind (a env) × IsWithinKind other.kind (b env))
          (Operated operator)
      emitted_runs allocation operator makes =
          along (λ env. emitted_marks source (a env) (b env) allocation operator)
          (weaken
          (λ env s fine given. given.0)
          (λ env s u fine given done. subst (λ v. RegisterOutcome z works d v s u)
          (emitted_same width (a env) (b env) given.1 given.2 allocation operator makes) done)
          (operator_runs (emitted_operator allocation operator)))
