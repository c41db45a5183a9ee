-- Straight-line code as a piece, and what it keeps.
use Rattle.std.specs.Prelude.{is_some}
use Rattle.std.proofs.Common.{◌≡◌, ℕ, suc, ◌+◌, ◌*◌, Bool, true, false, List, [], ◌∷◌, length, Option, Some, refl, sym}
use Rattle.std.proofs.Common.{◌∙◌, subst, arith}
use Rattle.std.proofs.lemmas.Bool.Decides.{nat_tests}
use Rattle.expression_code.proofs.program_logic_lemmas.Pieces.{seen_nothing, ends_on}
use Rattle.expression_code.proofs.program_logic_lemmas.StraightRuns.{straight_code_leads, rest_fit, rest_met}
use Rattle.expression_code.proofs.program_logic_lemmas.StraightRuns.{both_left, both_right, first_fit, first_met}
use Rattle.expression_code.proofs.program_logic_lemmas.StepLaws.{counted, LeadsBy-append, one_by}
use Rattle.expression_code.specs.program_logic.Placed.{Placed}
use Rattle.expression_code.specs.program_logic.Pieces.{PieceSetting, Before, none, always, Runs, Became}
use Rattle.expression_code.specs.program_logic.StraightCode.{Contents, contents_of, state_at, is_straight, are_straight}
use Rattle.expression_code.specs.program_logic.StraightCode.{event_of, next_of, left_by, after, after_all, shown_by}
use Rattle.expression_code.specs.program_logic.StraightCode.{fit_and}
use Rattle.expression_code.specs.program_logic.StraightCode.{AreFit, met_and, AreMet}
use Rattle.expression_code.specs.program_logic.MachineSteps.{Bound, LeadsBy, stays_by}
use Rattle.expression_code.specs.Below.{byte_count, ByteMap, Event, Instr, register, State, Store, store_size}
use Rattle.expression_code.specs.Below.{with_number}
use Rattle.expression_code.proofs.program_logic_lemmas.Below.{is_some-with_number}
use Rattle.rv_machine.specs.declared.memory.Size.{Size}
use Rattle.rv_machine.specs.declared.observation.Event.TheVariants as event

-- Straight-line code whose accesses are allowed: each of its instructions holds to what is to hold of a step, in
-- registers and bytes of which something holds, and it holds of those that the instruction leaves.
module _ (z : PieceSetting) (works : ℕ → Bool) (Allows : Option Event → Type 0) (Here : Contents → Type 0)
    (each : (i : Instr) (a p : ℕ) (c : Contents) (F : Type 0) → is_straight works i ≡ true → fit_and Allows i a F
    → Here c → z.Each (state_at p c) (event_of i a) (state_at (p + 4) (after i a c)) × Here (after i a c)) where
  -- so such code leads on, step by step
  straight_each : (p : ℕ) (is : List Instr) (places : List ℕ) (c : Contents) → are_straight works is ≡ true
      → Placed z.code p is → AreFit Allows is places → AreMet is places c → Here c
      → LeadsBy z.code z.Each (length is) (state_at p c) (shown_by p is places)
      (state_at (p + 4 * length is) (after_all is places c))
  straight_each p [] places c plain placed fit met here =
      let e : p ≡ p + 4 * 0 = omega arith in
      subst (λ q. LeadsBy z.code z.Each 0 (state_at p c) [] (state_at q c)) e stays_by
  straight_each p (i ∷ is) places c plain placed fit met here =
      let behind : p + 4 + 4 * length is ≡ p + 4 * suc (length is) = omega arith in
      let count : 1 + length is ≡ suc (length is) = omega arith in
      let ok = both_left (is_straight works i) (are_straight works is) plain in
      let a = next_of places in
      let holds = each i a p c _ ok fit here in
      let one = one_by
      (straight_code_leads works Allows z.code p (i ∷ []) places c (rw ok refl)
      (placed.0, placed.1, placed.2, tt) (first_fit Allows i a _ fit) (first_met i a c _ met)) holds.0 in
      let more = straight_each (p + 4) is (left_by i places) (after i a c)
      (both_right (is_straight works i) (are_straight works is) plain) placed.3 (rest_fit Allows i a _ fit)
      (rest_met i a c _ met) holds.1 in
      rw (behind, count) at (LeadsBy-append one more)

  -- with accesses at these addresses
  pub by_symbols : {bound : Bound} {P : Before z} (is : List Instr) (places : List ℕ) → are_straight works is ≡ true
      → AreFit Allows is places
      → ((env : z.Beside) (s : State) → P env s → AreMet is places (contents_of s) × Here (contents_of s))
      → Runs bound z (length is) none is P (λ env s t. Became is places s t)
  by_symbols {bound = bound} is places plain fit met = record {
    placed_at = λ p placed. record {
      leak = always (shown_by p is places);
      runs = λ env s rest at fine given.
          let c = contents_of s in
          let fits = met env s given in
          ends_on
          (record {
            step_count = length is;
            end = state_at (p + 4 * length is) (after_all is places c);
            seen = shown_by p is places;
            leads =
                subst (λ q. LeadsBy z.code z.Each (length is) (state_at q c) (shown_by p is places)
                (state_at (p + 4 * length is) (after_all is places c))) (sym at)
                (straight_each p is places c plain placed fit fits.0 fits.1);
            within = counted bound refl;
            shown = refl;
            at = refl;
            done = record { regs = refl; bytes = refl };
          })
          (seen_nothing z rest);
    };
  }

-- A register that none of the instructions may write is as it was.

pub register_after : (works : ℕ → Bool) (i : Instr) (a : ℕ) (c : Contents) (q : ℕ) → is_straight works i ≡ true
    → works q ≡ false → (after i a c).regs q ≡ c.regs q
register_after works (Store operation rs2 rs1 offset) a c q ok other = refl
register_after works i a c q ok other = grind (arith, nat_tests, ok, other)

pub register_kept : (works : ℕ → Bool) (is : List Instr) (places : List ℕ) (c : Contents) (q : ℕ)
    → are_straight works is ≡ true → works q ≡ false → (after_all is places c).regs q ≡ c.regs q
register_kept works [] places c q plain other = refl
register_kept works (i ∷ is) places c q plain other =
    register_kept works is (left_by i places) (after i (next_of places) c) q
    (both_right _ _ plain) other
    ∙ register_after works i (next_of places) c q (both_left _ _ plain) other

-- What is data stays data.

data_after : (i : Instr) (a : ℕ) (c : Contents) (M : Type 0) (x : ℕ) → met_and i a c M
    → is_some ((after i a c).bytes x) ≡ is_some (c.bytes x)
data_after (Store operation rs2 rs1 offset) a c M x met =
    is_some-with_number c.bytes (byte_count (store_size operation)) a (register c.regs rs2) x met.0.data_there
data_after i a c M x met = refl

pub data_kept : (is : List Instr) (places : List ℕ) (c : Contents) (x : ℕ) → AreMet is places c
    → is_some ((after_all is places c).bytes x) ≡ is_some (c.bytes x)
data_kept [] places c x met = refl
data_kept (i ∷ is) places c x met =
    let a = next_of places in
    data_kept is (left_by i places) (after i a c) x (rest_met i a c _ met) ∙ data_after i a c _ x met

-- A byte that no allowed store changes is as it was.

module _ (Allows : Option Event → Type 0) (x : ℕ)
    (beside : (bytes : ByteMap) (size : Size) (a v : ℕ) → Allows (Some (event.Store a size))
    → with_number bytes (byte_count size) a v x ≡ bytes x) where
  pub byte_after : (i : Instr) (a : ℕ) (c : Contents) (F : Type 0) → fit_and Allows i a F
      → (after i a c).bytes x ≡ c.bytes x
  byte_after (Store operation rs2 rs1 offset) a c F fit =
      beside c.bytes (store_size operation) a (register c.regs rs2) fit.0.allowed
  byte_after i a c F fit = refl

  pub byte_kept : (is : List Instr) (places : List ℕ) (c : Contents) → AreFit Allows is places
      → (after_all is places c).bytes x ≡ c.bytes x
  byte_kept [] places c fit = refl
  byte_kept (i ∷ is) places c fit =
      let a = next_of places in
      byte_kept is (left_by i places) (after i a c) (rest_fit Allows i a _ fit) ∙ byte_after i a c _ fit
