-- The marks of a path, by what they carry, and the instructions that show their operands: divisions and
-- multiplications.
use Rattle.std.proofs.Common.{◌≡◌, ◌≢◌, ℕ, ◌-◌, ◌<◌, ◌≤◌, List, [], ◌∷◌, ◌++◌, Option, Some, None, slice_index, refl}
use Rattle.std.proofs.Common.{sym, ap, ap₂, ◌∙◌, arith, inl, inr}
use Rattle.std.proofs.lemmas.Bool.{cases_eq, cases_lt}
use Rattle.expression_code.proofs.Below.{always, bounded, by_mark, ByteMap, decided, divide_leads}
use Rattle.expression_code.proofs.Below.{divide_value, divided, DivideOperation, Event, indexed, Instr}
use Rattle.expression_code.proofs.Below.{IsAt, IsInside, IsInstr, MarkKnown, Leads, Mark, multiplied}
use Rattle.expression_code.proofs.Below.{multiply_leads, multiply_value, MultiplyOperation, never}
use Rattle.expression_code.proofs.Below.{Observation, Path, Place, product_shown, Profile, register}
use Rattle.expression_code.proofs.Below.{stands, State, StraightState, step_ends, weaken, with_value}
use Rattle.expression_code.proofs.Below.{with_value-bytes, with_value-pc, with_value-regs}
use Rattle.expression_code.proofs.Frame.{Setting, Before, After, Steps, Runs, setting}
use Rattle.expression_code.proofs.Moves.{register-at, is_written, is_left}
use Rattle.expression_code.proofs.WorkRegisters.{IsFree}
use Rattle.expression_code.specs.Below.{seen as seen_of}
use Rattle.expression_code.proofs.program_logic_lemmas.Face.{MarkKind}
use Rattle.rv_code.specs.declared.instructions.Instr.TheVariants as instr
use Rattle.rv_machine.specs.declared.observation.Event.TheVariants as event
use Rattle.word.specs.declared.profile.Profile.TheVariants.{P1, P2}

-- Marks.

abbrev pub read_index : Mark → Option ℕ
read_index (indexed place size i) = Some i
read_index other = None

abbrev pub read_condition : Mark → Option ℕ
read_condition (decided v) = Some v
read_condition other = None

abbrev pub read_bounds : Mark → Option (ℕ × ℕ)
read_bounds (bounded x low high) = Some (low, high)
read_bounds other = None

abbrev pub read_operands : Mark → Option (ℕ × ℕ)
read_operands (divided place a b) = Some (a, b)
read_operands other = None

module _ (z : Setting) where
  abbrev index_kind : Place → (size : ℕ) → MarkKind (setting z) ℕ (λ i. i < size)
  index_kind place size = record {
    mark = λ i. indexed place size i;
    read = read_index;
    told = λ i. refl;
    seen = λ i path. refl;
    good = λ i path fine. fine.0;
  }

  abbrev pub condition_kind : MarkKind (setting z) ℕ (λ v. Unit {0})
  condition_kind = record {
    mark = λ v. decided v;
    read = read_condition;
    told = λ v. refl;
    seen = λ v path. refl;
    good = λ v path fine. tt;
  }

  -- the bounds of a loop: no more steps than are counted for its counter
  abbrev bounds_kind : (x : ℕ) → MarkKind (setting z) (ℕ × ℕ) (λ b. b.1 - b.0 ≤ slice_index z.counts x)
  bounds_kind x = record {
    mark = λ b. bounded x b.0 b.1;
    read = read_bounds;
    told = λ b. refl;
    seen = λ b path. refl;
    good = λ b path fine. fine.0;
  }

  abbrev operands_kind : Place → MarkKind (setting z) (ℕ × ℕ) (λ o. 0 < o.1)
  operands_kind place = record {
    mark = λ o. divided place o.0 o.1;
    read = read_operands;
    told = λ o. refl;
    seen = λ o path. refl;
    good = λ o path fine. fine.0;
  }

  -- code behind an index below the size
  pub by_index : {n : ℕ} {steps : Steps} {is : List Instr} {P : Before} {Q : After} (place : Place) (size : ℕ)
      (index : StraightState → ℕ)
      → ((i : ℕ) → i < size → Runs z n steps is (MarkKnown (setting z) ℕ (λ j. j < size) P index i) Q)
      → Runs z n (λ env. indexed place size (index env) ∷ steps env) is P Q
  by_index place size index one =
      by_mark (index_kind place size) index
      (λ i. elim (cases_lt i size) [
        | inl below ↦ one i below
        | inr past ↦ never (λ env s given. omega arith)
      ])

  -- so code for the one index that there can be, where it is known to be a number
  pub by_known_index : {n : ℕ} {steps : Steps} {is : List Instr} {P : Before} {Q : After} (place : Place) (size : ℕ)
      (index : StraightState → ℕ) (i : ℕ) → ((env : StraightState) → index env ≡ i)
      → (i < size → Runs z n steps is P Q) → Runs z n (λ env. indexed place size (index env) ∷ steps env) is P Q
  by_known_index place size index i known one =
      by_index place size index
      (λ j below. elim (cases_eq j i) [
        | inl same ↦ weaken (λ env s fine given. given.given) (λ env s t fine given done. done)
            (one (omega (arith, same, below)))
        | inr other ↦ never (λ env s given. other (sym given.is ∙ known env))
      ])

  -- code behind bounds with no more iterations between them than are counted
  pub by_bounds : {n : ℕ} {steps : Steps} {is : List Instr} {P : Before} {Q : After} (x : ℕ)
      (bounds : StraightState → ℕ × ℕ)
      → ((b : ℕ × ℕ) → b.1 - b.0 ≤ slice_index z.counts x
      → Runs z n steps is (MarkKnown (setting z) (ℕ × ℕ) (λ c. c.1 - c.0 ≤ slice_index z.counts x) P bounds b) Q)
      → Runs z n (λ env. bounded x (bounds env).0 (bounds env).1 ∷ steps env) is P Q
  by_bounds x bounds one =
      by_mark (bounds_kind x) bounds
      (λ b. elim (cases_lt (slice_index z.counts x) (b.1 - b.0)) [
        | inl more ↦ never (λ env s given. omega arith)
        | inr few ↦ one b few
      ])

  -- One register is written.

  pub record Moves (rd value : ℕ) (s t : State) : Type 0 where
    pub there : t.regs rd ≡ value
    pub others : (q : ℕ) → q ≢ rd → t.regs q ≡ s.regs q
    pub same : t.bytes ≡ s.bytes

  abbrev pub Operands : (l r : ℕ) (left right : StraightState → ℕ) → Before
  Operands l r left right env s = (s.regs l ≡ left env) × (s.regs r ≡ right env)

  -- an instruction between two registers into a third, which shows of their values what can be read off the path
  showing : {d l r : ℕ} {steps : Steps} {P : Before} (target : IsFree d) (one : IsFree l) (other : IsFree r)
      (i : Instr) (shows : ℕ → ℕ → Option Event) (made : ℕ → ℕ → ℕ) (left right : StraightState → ℕ) (leak : ℕ
      → Path → List Observation × Path)
      → IsInstr i → ((a b : ℕ) → IsInside z.frame z.size (shows a b))
      → ((s : State) → IsAt z.code s.pc i
      → Leads z.code 1 s (record { pc = s.pc; event = shows (register s.regs l) (register s.regs r) } ∷ [])
      (with_value s d (made (register s.regs l) (register s.regs r))))
      → ((env : StraightState) (s : State) → P env s → Operands l r left right env s)
      → ((p : ℕ) (env : StraightState) (s : State) (rest : Path) → P env s
      → leak p (seen_of z.code.profile (steps env) ++ rest)
      ≡ (record { pc = p; event = shows (left env) (right env) } ∷ [], rest))
      → Runs z 1 steps (i ∷ []) P (λ env s t. Moves d (made (left env) (right env)) s t)
  showing {d = d} {l = l} {r = r} target one other i shows made left right leak ok inside leads operands shown =
      record {
        placed_at = λ p placed. record {
          leak = leak p;
          runs = λ env s rest at fine fit.
              let v = made (register s.regs l) (register s.regs r) in
              let first = register-at s.regs l one.nonzero ∙ (operands env s fit).0 in
              let second = register-at s.regs r other.nonzero ∙ (operands env s fit).1 in
              step_ends _ (shows (left env) (right env)) (with_value s d v) at
              (leads s (stands z.code p i [] placed ok s at)) (ap₂ shows first second) (
                record {
                  regs = λ q low. is_left s.regs d v (with_value-regs s d v) q (omega arith);
                  beside = λ a apart. ap (λ (b : ByteMap). b a) (with_value-bytes s d v);
                },
                inside (left env) (right env),
              )
              (shown p env s rest fit) (omega (arith, at, placed.1, with_value-pc s d v)) (record {
                there = is_written s.regs d v (with_value-regs s d v) target.nonzero ∙ ap₂ made first second;
                others = is_left s.regs d v (with_value-regs s d v);
                same = with_value-bytes s d v;
              });
        };
      }

  -- a division of the operands that are next on the path
  pub dividing : {d l r : ℕ} (target : IsFree d) (one : IsFree l) (other : IsFree r) (place : Place)
      (left right : StraightState → ℕ) (operation : DivideOperation)
      → Runs z 1 (λ env. divided place (left env) (right env) ∷ []) (instr.Divide operation d l r ∷ [])
      (Operands l r left right) (λ env s t. Moves d (divide_value operation (left env) (right env)) s t)
  dividing {d = d} {l = l} {r = r} target one other place left right operation =
      by_mark (operands_kind place) (λ env. (left env, right env))
      (λ o. showing target one other (instr.Divide operation d l r) (λ a b. Some (event.Div a b))
      (divide_value operation) left right
      (λ p. always (record { pc = p; event = Some (event.Div o.0 o.1) } ∷ []))
      (target.small, one.small, other.small) (λ a b. tt) (λ s at. divide_leads z.code s operation d l r at)
      (λ env s known. known.given)
      (λ p env s rest known. ap (λ (b : ℕ × ℕ). (record { pc = p; event = Some (event.Div b.0 b.1) } ∷ [], rest))
      (sym known.is)))

  -- what is shown of the next mark's factors, where they are seen
  abbrev of_factors : Profile → ℕ → Path → List Observation × Path
  of_factors P1 p path = (record { pc = p; event = None } ∷ [], path)
  of_factors P2 p [] = ([], [])
  of_factors P2 p (multiplied a b ∷ rest) = (record { pc = p; event = Some (event.Mul a b) } ∷ [], rest)
  of_factors P2 p (other ∷ rest) = ([], rest)

  factors_shown : (profile : Profile) (p a b : ℕ) (rest : Path)
      → of_factors profile p (seen_of profile (multiplied a b ∷ []) ++ rest)
      ≡ (record { pc = p; event = product_shown profile a b } ∷ [], rest)
  factors_shown P1 p a b rest = refl
  factors_shown P2 p a b rest = refl

  factors_inside : (profile : Profile) (a b : ℕ) → IsInside z.frame z.size (product_shown profile a b)
  factors_inside P1 a b = tt
  factors_inside P2 a b = tt

  -- a multiplication of the factors that are next on the path
  pub multiplying : {d l r : ℕ} (target : IsFree d) (one : IsFree l) (other : IsFree r) (left right : StraightState
      → ℕ) (operation : MultiplyOperation)
      → Runs z 1 (λ env. multiplied (left env) (right env) ∷ []) (instr.Multiply operation d l r ∷ [])
      (Operands l r left right) (λ env s t. Moves d (multiply_value operation (left env) (right env)) s t)
  multiplying {d = d} {l = l} {r = r} target one other left right operation =
      showing target one other (instr.Multiply operation d l r) (product_shown z.code.profile)
      (multiply_value operation) left right (of_factors z.code.profile)
      (target.small, one.small, other.small) (factors_inside z.code.profile)
      (λ s at. multiply_leads z.code s operation d l r at) (λ env s fit. fit)
      (λ p env s rest fit. factors_shown z.code.profile p (left env) (right env) rest)
