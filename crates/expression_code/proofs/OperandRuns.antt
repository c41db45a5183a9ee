-- Operands of an expression: each is computed into its place, unless it is at home, and is then fetched into its
-- register.
use Rattle.std.proofs.Common.{◌≡◌, ◌≢◌, ℕ, zero, suc, ◌+◌, ◌-◌, ◌*◌, ◌%◌, ◌<◌, ◌≤◌, List, [], ◌++◌, inl, inr}
use Rattle.std.proofs.Common.{below_more, refl, ◌∙◌, arith}
use Rattle.expression_code.proofs.Below.{along, cheaper, home_of_term, expr_code, fetch_code, gives}
use Rattle.expression_code.proofs.Below.{TermHasType, height_of, idle, Instr, into_code, Location, none}
use Rattle.expression_code.proofs.Below.{operand, path_in, quiet, register_of, seq, slot_of, slots_to}
use Rattle.expression_code.proofs.Below.{State, StraightState, term_nodes, TermTree, types_of, value_in}
use Rattle.expression_code.proofs.Below.{WordType, working_register}
use Rattle.expression_code.proofs.Frame.{Setting, base_of, Steps, Before, Runs, HeldAt, terms_at}
use Rattle.expression_code.proofs.WorkRegisters.{IsFree, IsOperand, operand_apart, operand_free}
use Rattle.expression_code.proofs.WorkRegisters.{operand_not, cases_Option, is_operand, works_in}
use Rattle.expression_code.proofs.WorkRegisters.{works_at, higher_stays, beside_stays, own_stays}
use Rattle.expression_code.proofs.Operands.{RegisterOutcome, fetch_runs, operand_room, keep_runs}
use Rattle.expression_code.proofs.Homes.{home_there}
use Rattle.expression_code.proofs.TermLengths.{height}
use Rattle.expression_code.proofs.Values.{Ready, Valued, ValuedIn, Kept, Leaves, Holds, value_word}
use Rattle.expression_code.proofs.Values.{kept_less, kept_by, kept_then, leaves_then, leaves_spare}
use Rattle.expression_code.proofs.Values.{holds_lower, holds_still, homes_left, ready_after}

-- what an expression puts on the path
abbrev pub steps_of : TermTree → Steps
steps_of e env = path_in env.variables e

-- the place of an operand by its number, where the first has this one
abbrev pub place_by : ℕ → ℕ → ℕ
place_by place zero = place
place_by place (suc j) = place + suc j

pub place_is : (place j : ℕ) → place_by place j ≡ place + j
place_is place zero = omega arith
place_is place (suc j) = refl

-- at most three operands, by number
abbrev pub operands : TermTree → TermTree → TermTree → ℕ → TermTree
operands a b c zero = a
operands a b c (suc zero) = b
operands a b c j = c

-- the slots of temporaries lie from this offset on, behind all other words
pub record Slots : Type 0 where
  pub z : Setting
  pub free : ℕ
  pub aligned : free % 4 ≡ 0
  pub above : base_of z ≤ free

module _ (slots : Slots) where
  open slots use {z, free, aligned, above}

  -- how many temporaries have registers
  abbrev count : ℕ
  count = z.allocation.count

  few : count ≤ 16
  few = z.allocated.few

  -- where the slots of a place and of higher ones begin
  abbrev slot : ℕ → ℕ
  slot place = slot_of count free place

  abbrev pub HasSlot : ℕ → Type 0
  HasSlot place = free + 4 * slots_to count place ≤ z.size

  abbrev pub Typed : TermTree → WordType → Type 0
  Typed e word = TermHasType (types_of z.code.profile z.declared) e word

  -- the register of an operand
  abbrev pub found : ℕ → TermTree → ℕ → ℕ
  found place e spare = register_of (operand (terms_at z free) place e) spare

  pub found_is : (place : ℕ) (e : TermTree) (spare : ℕ) → IsOperand count place spare (found place e spare)
  found_is place e spare = is_operand (terms_at z free) z.allocated place spare e

  -- that of the operand of a number is a free one, and not the one that another place works in
  pub found_free : (place j : ℕ) (e : TermTree) → j < 3 → IsFree (found (place_by place j) e (29 + j))
  found_free place j e small =
      operand_free count (place_by place j) (29 + j) _ few (omega arith) (omega arith)
      (found_is (place_by place j) e (29 + j))

  pub found_apart : (place j k : ℕ) (e : TermTree) → j ≢ k
      → found (place_by place j) e (29 + j) ≢ working_register count (place_by place k) (29 + k)
  found_apart place j k e other =
      operand_apart count (place_by place j) (place_by place k) (29 + j) (29 + k) _ few
      (λ f. other (omega (arith, f, place_is place j, place_is place k))) (omega arith) (omega arith)
      (λ f. other (omega arith)) (found_is (place_by place j) e (29 + j))

  -- the code of an expression brings its value to where it is found
  abbrev pub Lies : TermTree → ℕ → Type 0
  Lies e place = Runs z (16 * term_nodes e) (steps_of e) (expr_code (terms_at z free) place e) (Ready z)
      (Valued z e free place)

  -- what is shown stays shown where temporaries change
  pub still_ready : (place : ℕ) (env : StraightState) (s t : State) → Ready z env s → HeldAt z t
      → Kept z (slot place) s t → Leaves (works_in count place) s t → Ready z env t
  still_ready place env s t ready held kept lower =
      ready_after z env s t ready held (kept_less z (base_of z) (slot place) s t (omega (arith, above)) kept)
      (homes_left z place s t lower)

  -- Operands: each is computed into its place, and then fetched into its register.

  module _ (place : ℕ) (e : ℕ → TermTree) where
    -- where an operand is
    abbrev pub location : ℕ → Location
    location j = operand (terms_at z free) (place_by place j) (e j)

    -- of n operands the first k are in their registers, and the others where they are found
    pub record OperandsFetched (k n : ℕ) (env : StraightState) (s t : State) : Type 0 where
      pub held : HeldAt z t
      pub fetched : (j : ℕ) → j < k → t.regs (register_of (location j) (29 + j)) ≡ value_in env.variables (e j)
      pub waiting : (j : ℕ) → k ≤ j → j < n → Holds z (location j) t (value_in env.variables (e j))
      pub kept : Kept z (slot place) s t
      pub lower : Leaves (works_in count place) s t

    pub none_yet : Runs z 0 none [] (Ready z) (OperandsFetched 0 0)
    none_yet =
        idle (λ env s ready. record {
          held = ready.held;
          fetched = λ j below. absurd (omega arith);
          waiting = λ j low below. absurd (omega arith);
          kept = λ o below. refl;
          lower = λ q h. refl;
        })

    pub one_more : (n : ℕ) {m l : ℕ} {a b : Steps} {xs ys : List Instr} → Runs z m a xs (Ready z) (OperandsFetched 0 n)
        → Runs z l b ys (Ready z) (Valued z (e n) free (place_by place n))
        → Runs z (m + l) (λ env. a env ++ b env) (xs ++ ys) (Ready z) (OperandsFetched 0 (n + 1))
    one_more n runs next =
        let k = slot place in
        let p = place_by place n in
        let higher : place ≤ p = omega (arith, place_is place n) in
        gives
        (λ env s t fine ready done.
        let u = done.middle in
        let one = done.first in
        let two = done.second in
        record {
          held = two.held;
          fetched = λ j below. absurd (omega arith);
          waiting = λ j low.
              below_more (λ i. Holds z (location i) t (value_in env.variables (e i))) n
              (λ i less. holds_lower z free (place_by place i) p _ u t
              (omega (arith, less, place_is place i, place_is place n)) two.kept two.lower (e i)
              (one.waiting i (omega arith) less)) two.there j;
          kept = kept_then z k s u t one.kept (kept_less z k (slot p) u t (omega arith) two.kept);
          lower = leaves_then (works_in count place) s u t one.lower
              (λ q h. two.lower q (higher_stays count place p q higher h));
        })
        (seq runs next (λ env s t ready done. still_ready place env s t ready done.held done.kept done.lower))

    pub one_fetched : (k : ℕ) {n m : ℕ} {a : Steps} {xs : List Instr} → k < n → k < 3 → HasSlot (place_by place k)
        → Runs z m a xs (Ready z) (OperandsFetched k n)
        → Runs z (m + 3) a (xs ++ fetch_code (location k) (29 + k)) (Ready z) (OperandsFetched (k + 1) n)
    one_fetched k less small room runs =
        gives
        (λ env s t fine ready done.
        let u = done.middle in
        let one = done.first in
        let two = done.second in
        record {
          held = two.held;
          fetched =
              below_more (λ j. t.regs (register_of (location j) (29 + j)) ≡ value_in env.variables (e j)) k
              (λ j below.
              two.others _ (operand_not count (place_by place j) (29 + j) (29 + k) _ few (omega arith)
              (omega arith) (found_is (place_by place j) (e j) (29 + j)))
              ∙ one.fetched j below) two.there;
          waiting = λ j low below. holds_still z free (place_by place j) place _ u t (29 + k) (omega arith) two.others
              two.same (e j) (one.waiting j (omega arith) below);
          kept = kept_then z (slot place) s u t one.kept (kept_by z (slot place) u t two.same);
          lower = leaves_then (works_in count place) s u t one.lower
              (leaves_spare count place (29 + k) u t (omega arith) two.others);
        })
        (quiet runs
        (fetch_runs z (29 + k) (omega arith) (omega arith) (λ env. value_in env.variables (e k)) (location k)
        (operand_room z free aligned (place_by place k) room (e k)))
        (λ env s t ready done. (done.held, done.waiting k (omega arith) less)))

    -- what is made of them comes into a register
    pub made : (d : ℕ) {k n m l : ℕ} {whole : TermTree} {a b : Steps} {xs ys : List Instr} {P : Before}
        → Runs z m a xs (Ready z) (OperandsFetched k n)
        → Runs z l b ys P (λ env s t. RegisterOutcome z (works_at count place d) d (value_in env.variables whole) s t)
        → ((env : StraightState) (s t : State) → Ready z env s → OperandsFetched k n env s t → P env t)
        → Runs z (m + l) (λ env. a env ++ b env) (xs ++ ys) (Ready z) (ValuedIn z whole free d place)
    made d runs piece link =
        let k = slot place in
        gives
        (λ env s t fine ready done.
        let u = done.middle in
        let one = done.first in
        let two = done.second in
        assumption (
          kept_then z k s u t one.kept (kept_by z k u t two.same),
          leaves_then (works_at count place d) s u t (λ q h. one.lower q (beside_stays count place d q h)) two.others,
        ))
        (seq runs piece link)

  -- A value in the register of a place is kept there, where the expression is not at home.

  abbrev own_code : ℕ → TermTree → List Instr
  own_code place e = into_code (terms_at z free) (working_register count place 29) place e

  -- so each expression is where it is found, if its code brings its value into the register of a place
  pub placed : {e : TermTree} {word : WordType} → Typed e word → (place : ℕ)
      → free + 4 * slots_to count (height_of e + place) ≤ z.size
      → Runs z (16 * term_nodes e - 3) (steps_of e) (own_code place e) (Ready z)
      (ValuedIn z e free (working_register count place 29) place)
      → Lies e place
  placed {e = e} {word = word} has place room runs =
      elim (cases_Option (home_of_term z.allocation e)) [
        | inl found ↦
            let home_is = home_there z has found.0 found.1 in
            rw found.1 (along (λ env. home_is.quiet env.variables)
            (cheaper {m = 0} (omega arith)
            (idle (λ env s ready.
            let there : Holds z (operand (terms_at z free) place e) s (value_in env.variables e) =
            rw found.1 (home_is.there env s ready) in
            assumption))))
        | inr at ↦
            let k = slot place in
            rw at (cheaper (omega (arith, height e))
            (gives
            (λ env s t fine ready done.
            let u = done.middle in
            let one = done.first in
            let two = done.second in
            let there : Holds z (operand (terms_at z free) place e) t (value_in env.variables e) = rw at two.1 in
            assumption (
              kept_then z k s u t one.kept two.2,
              leaves_then (works_in count place) s u t (λ q h. one.lower q (own_stays count place q few h))
                  (leaves_spare count place 28 u t (omega arith) two.3),
            ))
            (quiet runs
            (keep_runs z free aligned place (omega arith) (λ env. value_in env.variables e))
            (λ env s t ready done.
            assumption (value_word z.code.profile z.declared e word env.variables ready.fits has)))))
      ]
