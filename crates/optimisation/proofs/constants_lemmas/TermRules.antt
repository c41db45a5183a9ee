-- What stands in the place of a node with simple operands has the node's value, and its path is fine where that of the
-- node is.
use Rattle.std.proofs.Common.{◌≡◌, ℕ, ◌-◌, ◌*◌, ◌/◌, ◌%◌, ◌^◌, ◌<◌, ◌==◌, ◌&&◌, Bool, true, false, not, bit_and}
use Rattle.std.proofs.Common.{if◌then◌else◌, List, [], ◌∷◌, ◌++◌, Option, None, Some, IfSome, option_map, refl, sym}
use Rattle.std.proofs.Common.{ap, ap₂, ◌∙◌, subst}
use Rattle.std.proofs.Math.Nat.{mod-eq_of_lt, mul_comm}
use Rattle.std.proofs.lemmas.Bool.{cond-false, cond-true, cond_both, false≢true}
use Rattle.std.proofs.lemmas.Nat.{and_mask}
use Rattle.std.proofs.lemmas.Option.{none-some, option_and_then_some, same_Some}
use Rattle.std.specs.Option.{option_and, option_and_then, option_or}
use Rattle.inline.proofs.Fitting.{wrapped_fits}
use Rattle.optimisation.specs.Below.{binary, BinaryOperator, BitAnd, bits, convert, converted, Divide, divides, IsWord}
use Rattle.optimisation.specs.Below.{Kind, marks_of, multiplied, Multiply, Not, number, operated, operation_kind}
use Rattle.optimisation.specs.Below.{operation_of, opposite_of, Path, path_in, Place, prefix, prefix_value}
use Rattle.optimisation.specs.Below.{PrefixOperator, Remainder, rotate, rotated_left, select, ShiftLeft, ShiftRight}
use Rattle.optimisation.specs.Below.{TermTree, truth, truth_of, swapped_of, Uint32, value_in, Values, W32, Width}
use Rattle.optimisation.specs.Below.{width_of, word_of}
use Rattle.branch_removal.proofs.Sequences.{fine_both, fine_front, fine_back}
use Rattle.optimisation.specs.declared.constants.fields.BitField.{BitField}
use Rattle.optimisation.specs.declared.constants.known.Constant.{Constant}
use Rattle.optimisation.specs.constants.private.Fields.{amount_of, cleared_by, field_of, field_within, mask_of}
use Rattle.optimisation.specs.constants.private.Fields.{moved, moved_or}
use Rattle.optimisation.specs.constants.private.Folding.{applied, between, binary_or, chosen, constant, constant_of}
use Rattle.optimisation.specs.constants.private.Folding.{converted_to, decided, decided_by_left, decided_by_right}
use Rattle.optimisation.specs.constants.private.Folding.{decision, is_among, is_left_identity, is_right_identity}
use Rattle.optimisation.specs.constants.private.Folding.{known_or, negation_of, operated_on, operation, prefixed}
use Rattle.optimisation.specs.constants.private.Folding.{reduced, rotated, stepped, stepped_or, truth_or, swapped}
use Rattle.optimisation.specs.constants.private.Folding.{swapped_by}
use Rattle.optimisation.specs.constants.private.Powers.{exponent_of, step_by, step_of, swapped_step}
use Rattle.optimisation.proofs.constants_lemmas.Bounded.{IsNegated, IsMoved, IsBounded, AreTaken, divided_fits}
use Rattle.optimisation.proofs.constants_lemmas.Bounded.{moved_fits, word_moved}
use Rattle.optimisation.proofs.constants_lemmas.Comparisons.{IsOpposite, IsSwapped, denied_twice, opposite}
use Rattle.optimisation.proofs.constants_lemmas.Comparisons.{swapped_alike}
use Rattle.optimisation.proofs.constants_lemmas.Identities.{left_leaves, right_leaves}
use Rattle.optimisation.proofs.constants_lemmas.OneOperand.{left_value, right_value}
use Rattle.optimisation.proofs.constants_lemmas.Powers.{IsPower, is_power, quotient_below}
use Rattle.optimisation.proofs.constants_lemmas.TwoShifts.{IsField, is_field, lifted_by, moved_value}
use Rattle.straight_words.proofs.over_lemmas.Values.{IsNoWorse, same_path, through, alone, IsAlike}

-- What there may be.

-- what holds of each that there may be, and where there is none
some_by : {A : Type 0} (Q : A → Type 0) (P : Option A → Type 0) (o : Option A) → IfSome o Q
    → ((x : A) → Q x → P (Some x)) → P None → P o
some_by Q P None found each none = none
some_by Q P (Some x) found each none = each x found

option_by : {A : Type 0} (P : Option A → Type 0) (o : Option A) → ((x : A) → o ≡ Some x → P (Some x)) → P None → P o
option_by P None each none = none
option_by P (Some x) each none = each x refl

module _ (m : Values) where
  pub constant_value : (e : TermTree) (c : Constant) → constant_of e ≡ Some c → value_in m e ≡ c.value
  constant_value (number value kind) c is = ap (λ (d : Constant). d.value) (same_Some (constant value kind) c is)
  constant_value (truth value) c is = ap (λ (d : Constant). d.value) (same_Some _ c is)
  constant_value e c is = absurd (none-some c is)

  -- a condition that is decided
  pub decided_value : (e : TermTree) (b : Bool) → decision e ≡ Some b → (value_in m e == 0) ≡ not b
  decided_value e b is = by_constant (constant_of e) refl is
    where
      twice : (z : Bool) → not z ≡ b → z ≡ not b
      twice true h = ap not h
      twice false h = ap not h

      by_constant : (o : Option Constant) → constant_of e ≡ o
          → option_map (λ (c : Constant). truth_of c.value) o ≡ Some b → (value_in m e == 0) ≡ not b
      by_constant None same h = absurd (none-some b h)
      by_constant (Some c) same h = ap (λ v. v == 0) (constant_value e c same)
          ∙ twice (c.value == 0) (same_Some _ b h)

module _ (most : List ℕ) (m : Values) where
  -- an expression may stand in the place of another one
  pub record MayStand (e f : TermTree) : Type 0 where
    pub alike : IsAlike most m m e f
    pub bounded : IsBounded m f

  stays : (e : TermTree) → IsBounded m e → MayStand e e
  stays e bounded = record { alike = record { value = refl; path = same_path most }; bounded = bounded }

  -- an expression that may stand in the place of one that is alike
  pub behind : {e f g : TermTree} → IsAlike most m m e f → MayStand f g → MayStand e g
  behind one other = record {
    alike = record {
      value = other.alike.value ∙ one.value;
      path = through most one.path other.alike.path;
    };
    bounded = other.bounded;
  }

  -- what is a number meets nothing
  to_number : {e : TermTree} (v : ℕ) (kind : Kind) → v ≡ value_in m e → MayStand e (number v kind)
  to_number v kind same =
      record { alike = record { value = same; path = record { fine = λ fine. tt } }; bounded = tt }

  to_truth : {e : TermTree} (t : Bool) → word_of t ≡ value_in m e → MayStand e (truth t)
  to_truth t same = record { alike = record { value = same; path = record { fine = λ fine. tt } }; bounded = tt }

  -- One operand.

  one_operand : (operand : TermTree) (f : Constant → Constant) (e whole : TermTree)
      → ((c : Constant) → constant_of operand ≡ Some c → (f c).value ≡ value_in m e) → MayStand e whole
      → MayStand e (known_or (option_map f (constant_of operand)) whole)
  one_operand operand f e whole same =
      option_by (λ o. MayStand e (known_or (option_map f o) whole)) (constant_of operand)
      (λ c is. to_number (f c).value (f c).kind (same c is))

  negation_becomes : (width : Width) (e : TermTree) → value_in m e < 2 → IsBounded m e
      → MayStand (prefix Not width e) (negation_of width e)
  negation_becomes width (prefix Not w operand) fits bounded = record {
    alike = record { value = sym (denied_twice (value_in m operand) bounded.0); path = same_path most };
    bounded = bounded.1;
  }
  negation_becomes width (binary place operator w left right) fits bounded =
      let whole = prefix Not width (binary place operator w left right) in
      let a = value_in m left in
      let b = value_in m right in
      some_by (IsOpposite operator) (λ o. MayStand whole (binary_or o place w left right whole)) (opposite_of operator)
      (opposite operator)
      (λ other found. record {
        alike = record {
          value = found.value w a b;
          path = subst (λ (marks : Path). IsNoWorse most
              ((path_in m left ++ path_in m right) ++ marks_of place operator a b)
              ((path_in m left ++ path_in m right) ++ marks)) (sym (found.unmarked place a b)) (same_path most);
        };
        bounded = found.unmoved w a;
      })
      (stays whole (fits, bounded))
  negation_becomes width e fits bounded = stays (prefix Not width e) (fits, bounded)

  applied_becomes : (operator : PrefixOperator) (width : Width) (e : TermTree) → IsNegated operator (value_in m e)
      → IsBounded m e → MayStand (prefix operator width e) (applied operator width e)
  applied_becomes Not width e fits bounded = negation_becomes width e fits bounded
  applied_becomes operator width e fits bounded = stays (prefix operator width e) (fits, bounded)

  pub prefixed_becomes : (operator : PrefixOperator) (width : Width) (e : TermTree) → IsNegated operator (value_in m e)
      → IsBounded m e → MayStand (prefix operator width e) (prefixed operator width e)
  prefixed_becomes operator width e fits bounded =
      one_operand e (λ c. constant (prefix_value operator width c.value) c.kind) (prefix operator width e)
      (applied operator width e) (λ c is. ap (prefix_value operator width) (sym (constant_value m e c is)))
      (applied_becomes operator width e fits bounded)

  pub rotated_becomes : (width : Width) (e : TermTree) (amount : ℕ)
      → MayStand (rotate width e amount) (rotated width e amount)
  rotated_becomes width e amount =
      one_operand e (λ c. constant (rotated_left width c.value amount) c.kind) (rotate width e amount)
      (rotate width e amount) (λ c is. ap (λ v. rotated_left width v amount) (sym (constant_value m e c is)))
      (stays (rotate width e amount) tt)

  pub converted_becomes : (kind : Kind) (e : TermTree) → MayStand (convert kind e) (converted_to kind e)
  converted_becomes kind e =
      one_operand e (λ c. constant (converted (width_of kind) c.value) kind) (convert kind e) (convert kind e)
      (λ c is. ap (converted (width_of kind)) (sym (constant_value m e c is))) (stays (convert kind e) tt)

  -- Paths of operands.

  module _ (place : Place) (operator : BinaryOperator) (width : Width) (left right : TermTree) where
    abbrev all_path : Path
    all_path = path_in m (binary place operator width left right)

    operands : IsNoWorse most all_path (path_in m left ++ path_in m right)
    operands = record {
      fine = fine_front most (path_in m left ++ path_in m right)
          (marks_of place operator (value_in m left) (value_in m right));
    }

    left_path : IsNoWorse most all_path (path_in m left)
    left_path = record { fine = λ fine. fine_front most (path_in m left) (path_in m right) (operands.fine fine) }

    right_path : IsNoWorse most all_path (path_in m right)
    right_path = record { fine = λ fine. fine_back most (path_in m left) (path_in m right) (operands.fine fine) }

    swapped_path : IsNoWorse most all_path (path_in m right ++ path_in m left)
    swapped_path = record {
      fine = λ fine. fine_both most (path_in m right) (path_in m left) (right_path.fine fine) (left_path.fine fine);
    }

  -- with a number on the right
  by_number : {p q : Path} → IsNoWorse most p q → IsNoWorse most p ((q ++ []) ++ [])
  by_number one = alone most (alone most one)

  power_value : (e : TermTree) (c : Constant) (k : ℕ) → constant_of e ≡ Some c → IsPower c.value k
      → 2 ^ k ≡ value_in m e
  power_value e c k is power = sym (constant_value m e c is ∙ power.is)

  -- Two operands.

  module _ (place inner : Place) (width : Width) (word amount right : TermTree) where
    abbrev down_then : TermTree
    down_then = binary inner ShiftRight W32 word amount

    -- bits of a word, by two shifts
    bits_moved : (by mask : Constant) (field : BitField) → value_in m word < 2 ^ 32 → constant_of amount ≡ Some by
        → constant_of right ≡ Some mask → IsField by mask.value field
        → MayStand (binary place BitAnd width down_then right) (moved place W32 word field)
    bits_moved by mask field below is also found = record {
      alike = record {
        value = moved_value m place word amount right by mask.value field below (constant_value m amount by is)
            (constant_value m right mask also) found;
        path =
            let front = through most (left_path place BitAnd width down_then right)
            (left_path inner ShiftRight W32 word amount) in
            by_number (lifted_by
            (λ e. IsNoWorse most (path_in m (binary place BitAnd width down_then right)) (path_in m e)) place W32 word
            field (λ zero. front) (by_number front));
      };
      bounded = lifted_by (λ e. value_in m e < 2 ^ 32) place W32 word field (λ zero. below) (wrapped_fits W32 _);
    }

  -- where a word is moved down and then masked
  bits_become : (place inner : Place) (width : Width) (word amount right : TermTree) (operator : BinaryOperator)
      (mask : Option Constant) (down : BinaryOperator) (w : Width) (by : Option Constant) → constant_of right ≡ mask
      → constant_of amount ≡ by → IsMoved down w (value_in m word)
      → IsMoved operator width (value_in m (binary inner down w word amount))
      → MayStand (binary place operator width (binary inner down w word amount) right)
      (moved_or (field_of (mask_of operator mask) (amount_of down w by)) place w word
      (binary place operator width (binary inner down w word amount) right))
  bits_become place inner width word amount right BitAnd (Some mask) ShiftRight W32 (Some by) is also below whole =
      let e = binary place BitAnd width (binary inner ShiftRight W32 word amount) right in
      some_by (IsField by mask.value) (λ o. MayStand e (moved_or o place W32 word e))
      (field_within by mask.value (cleared_by mask.value)) (is_field by mask.value)
      (λ field found. bits_moved place inner width word amount right by mask field below also is found) (stays e tt)
  bits_become place inner width word amount right operator mask down w by is also below whole =
      stays (binary place operator width (binary inner down w word amount) right) whole

  operation_becomes : (place : Place) (operator : BinaryOperator) (width : Width) (left right : TermTree)
      → IsBounded m left → IsMoved operator width (value_in m left)
      → MayStand (binary place operator width left right) (operation place operator width left right)
  operation_becomes place operator width (binary inner down w word amount) right bounded whole =
      bits_become place inner width word amount right operator (constant_of right) down w (constant_of amount) refl
      refl bounded whole
  operation_becomes place operator width left right bounded whole = stays (binary place operator width left right) whole

  module _ (place : Place) (width : Width) (word side : TermTree) (bounded : IsBounded m word) (power : Constant)
      (is : constant_of side ≡ Some power) (k : ℕ) (found : IsPower power.value k) where
    abbrev a : ℕ
    a = value_in m word

    shifted_up : MayStand (binary place Multiply width word side)
        (operation place ShiftLeft width word (number k Uint32))
    shifted_up =
        behind {f = binary place ShiftLeft width word (number k Uint32)} (record {
          value = ap (λ j. (a * 2 ^ j) % 2 ^ bits width) (mod-eq_of_lt found.few)
              ∙ ap (λ n. (a * n) % 2 ^ bits width) (power_value side power k is found);
          path = by_number (left_path place Multiply width word side);
        })
        (operation_becomes place ShiftLeft width word (number k Uint32) bounded tt)

    shifted_down : IsWord width a
        → MayStand (binary place Divide width word side) (operation place ShiftRight width word (number k Uint32))
    shifted_down low =
        behind {f = binary place ShiftRight width word (number k Uint32)} (record {
          value = ap (λ j. (a / 2 ^ j) % 2 ^ bits width) (mod-eq_of_lt found.few)
              ∙ (mod-eq_of_lt (quotient_below width a (2 ^ k) low)
              ∙ ap (λ n. a / n) (power_value side power k is found));
          path = by_number (left_path place Divide width word side);
        })
        (operation_becomes place ShiftRight width word (number k Uint32) bounded (word_moved width a low))

    masked : MayStand (binary place Remainder width word side)
        (operation place BitAnd width word (number (power.value - 1) power.kind))
    masked =
        behind {f = binary place BitAnd width word (number (power.value - 1) power.kind)} (record {
          value = ap (λ n. bit_and a (n - 1)) found.is
              ∙ (and_mask a k ∙ ap (λ n. a % n) (power_value side power k is found));
          path = by_number (left_path place Remainder width word side);
        })
        (operation_becomes place BitAnd width word (number (power.value - 1) power.kind) bounded tt)

  module _ (place : Place) (width : Width) (whole word side rest : TermTree) (side_rest : MayStand whole rest)
      (bounded : IsBounded m word) where
    power_becomes : (operator : BinaryOperator) → IsAlike most m m whole (binary place operator width word side)
        → (divides operator ≡ true → IsWord width (value_in m word)) → (power : Constant)
        → constant_of side ≡ Some power → (k : ℕ) → IsPower power.value k
        → MayStand whole (stepped_or (step_by operator power k) place width word rest)
    power_becomes Multiply here low power is k found =
        behind here (shifted_up place width word side bounded power is k found)
    power_becomes Divide here low power is k found =
        behind here (shifted_down place width word side bounded power is k found (low refl))
    power_becomes Remainder here low power is k found =
        behind here (masked place width word side bounded power is k found)
    power_becomes operator here low power is k found = side_rest

    -- an operator by what may be a power of two, or else what it is without
    step_becomes : (operator : BinaryOperator) → IsAlike most m m whole (binary place operator width word side)
        → (divides operator ≡ true → IsWord width (value_in m word))
        → MayStand whole (stepped_or (step_of operator (constant_of side)) place width word rest)
    step_becomes operator here low =
        option_by (λ o. MayStand whole (stepped_or (step_of operator o) place width word rest)) (constant_of side)
        (λ power is. some_by (IsPower power.value)
        (λ k. MayStand whole (stepped_or (option_and_then (step_by operator power) k) place width word rest))
        (exponent_of power.value) (is_power power.value)
        (λ k found. power_becomes operator here low power is k found) side_rest)
        side_rest

  among : (numbers : ℕ → Bool) (o : Option Constant) → is_among numbers o ≡ true
      → (c : Constant) × (o ≡ Some c) × (numbers c.value ≡ true)
  among numbers None is = absurd (false≢true is)
  among numbers (Some c) is = (c, refl, is)

  module _ (place : Place) (width : Width) (left right : TermTree) (at_left : IsBounded m left)
      (at_right : IsBounded m right) where
    abbrev at : BinaryOperator → TermTree
    at operator = binary place operator width left right

    module _ (operator : BinaryOperator) (taken : AreTaken operator width (value_in m left) (value_in m right)) where
      plain_becomes : MayStand (at operator) (operation place operator width left right)
      plain_becomes =
          operation_becomes place operator width left right at_left
          (moved_fits operator width taken.one.kind (value_in m left) taken.left)

      swapped_becomes : MayStand (at operator) (swapped place operator width left right)
      swapped_becomes =
          let plain = operation place operator width left right in
          option_by (λ o. MayStand (at operator) (binary_or (swapped_by operator o) place width right left plain))
          (constant_of left)
          (λ c is. some_by (IsSwapped operator)
          (λ o. MayStand (at operator) (binary_or o place width right left plain))
          (option_and (opposite_of operator) (swapped_of operator)) (swapped_alike operator)
          (λ next found. record {
            alike = record {
              value = found.value width (value_in m left) (value_in m right);
              path = subst (λ (marks : Path). IsNoWorse most (path_in m (at operator))
                  ((path_in m right ++ path_in m left) ++ marks))
                  (sym (found.unmarked place (value_in m right) (value_in m left)))
                  (alone most (swapped_path place operator width left right));
            };
            bounded = found.unmoved width (value_in m right);
          })
          plain_becomes)
          plain_becomes

    -- by a power of two on the left
    left_becomes : (operator : BinaryOperator) → AreTaken operator width (value_in m left) (value_in m right)
        → MayStand (at operator)
        (stepped_or (swapped_step operator (constant_of left)) place width right
        (swapped place operator width left right))
    left_becomes Multiply taken =
        step_becomes place width (at Multiply) right left (swapped place Multiply width left right)
        (swapped_becomes Multiply taken) at_right Multiply (record {
          value = ap (λ v. v % 2 ^ bits width) (mul_comm (value_in m right) (value_in m left));
          path = record {
            fine = λ fine. fine_both most (path_in m right ++ path_in m left)
                (multiplied (value_in m right) (value_in m left) ∷ [])
                ((swapped_path place Multiply width left right).fine fine) (tt, tt);
          };
        }) (λ h. absurd (false≢true h))
    left_becomes operator taken = swapped_becomes operator taken

    stepped_becomes : (operator : BinaryOperator) → AreTaken operator width (value_in m left) (value_in m right)
        → MayStand (at operator) (stepped place operator width left right)
    stepped_becomes operator taken =
        step_becomes place width (at operator) left right
        (stepped_or (swapped_step operator (constant_of left)) place width right
        (swapped place operator width left right)) (left_becomes operator taken) at_left operator
        (record { value = refl; path = same_path most })
        (divided_fits operator width (value_in m left) (value_in m right) taken)

    reduced_becomes : (operator : BinaryOperator) → AreTaken operator width (value_in m left) (value_in m right)
        → MayStand (at operator) (reduced place operator width left right)
    reduced_becomes operator taken =
        let right_number = is_right_identity operator width in
        let left_number = is_left_identity operator width in
        let rest = stepped place operator width left right in
        cond_both (is_among right_number (constant_of right)) left
        (if is_among left_number (constant_of left) then right else rest) (MayStand (at operator))
        (λ is.
        let found = among right_number (constant_of right) is in
        record {
          alike = record {
            value = sym (right_leaves operator width (value_in m left) (value_in m right) taken.makes taken.even
                taken.left (ap right_number (constant_value m right found.0 found.1) ∙ found.2));
            path = left_path place operator width left right;
          };
          bounded = at_left;
        })
        (λ none. cond_both (is_among left_number (constant_of left)) right rest (MayStand (at operator))
        (λ is.
        let found = among left_number (constant_of left) is in
        record {
          alike = record {
            value = sym (left_leaves operator width (value_in m left) (value_in m right) taken.makes taken.even
                taken.right (ap left_number (constant_value m left found.0 found.1) ∙ found.2));
            path = right_path place operator width left right;
          };
          bounded = at_right;
        })
        (λ none. stepped_becomes operator taken))

    pub operated_becomes : (operator : BinaryOperator) → AreTaken operator width (value_in m left) (value_in m right)
        → MayStand (at operator) (operated_on place operator width left right)
    operated_becomes operator taken =
        by_numbers (constant_of left) (constant_of right) refl refl
        (option_by (λ o. MayStand (at operator) (truth_or o (reduced place operator width left right)))
        (decided operator (constant_of left) (constant_of right)) (λ t is. by_left t _ refl is)
        (reduced_becomes operator taken))
      where
        by_left : (t : Bool) (o : Option Bool)
            → option_and_then (λ (c : Constant). decided_by_left operator c.value) (constant_of left) ≡ o
            → option_or o (option_and_then (λ (c : Constant). decided_by_right operator c.value) (constant_of right))
            ≡ Some t
            → MayStand (at operator) (truth t)
        by_left t None same is =
            option_and_then_some (λ (c : Constant). decided_by_right operator c.value) (constant_of right) t is
            (λ c there decides. to_truth t (right_value operator width (value_in m left) (value_in m right) t
            (ap (decided_by_right operator) (constant_value m right c there) ∙ decides)))
        by_left t (Some said) same is =
            option_and_then_some (λ (c : Constant). decided_by_left operator c.value) (constant_of left) t (same ∙ is)
            (λ c there decides. to_truth t (left_value operator width (value_in m left) (value_in m right) t
            (ap (decided_by_left operator) (constant_value m left c there) ∙ decides)))

        by_numbers : (a b : Option Constant) → constant_of left ≡ a → constant_of right ≡ b → {told : TermTree}
            → MayStand (at operator) told → MayStand (at operator) (known_or (between operator width a b) told)
        by_numbers (Some a) (Some b) is also {told = told} rest =
            cond_both (divides operator && (b.value == 0)) None (Some (operated operator width a.value b.value))
            (λ v. MayStand (at operator)
            (known_or (option_map (λ n. constant n (operation_kind (operation_of operator) a.kind)) v) told))
            (λ zero. rest)
            (λ some. to_number (operated operator width a.value b.value) _
            (ap₂ (operated operator width) (sym (constant_value m left a is)) (sym (constant_value m right b also))))
        by_numbers a b is also rest = rest

  -- A choice.
  pub chosen_becomes : (condition accepted otherwise : TermTree) → IsBounded m accepted → IsBounded m otherwise
      → MayStand (select condition accepted otherwise) (chosen (decision condition) condition accepted otherwise)
  chosen_becomes condition accepted otherwise at_accepted at_otherwise = by_decision (decision condition) refl
    where
      by_decision : (d : Option Bool) → decision condition ≡ d
          → MayStand (select condition accepted otherwise) (chosen d condition accepted otherwise)
      by_decision None is = stays (select condition accepted otherwise) tt
      by_decision (Some true) is = record {
        alike = record {
          value = sym (cond-false (value_in m condition == 0) (value_in m otherwise) (value_in m accepted)
              (decided_value m condition true is));
          path = record {
            fine = λ fine. fine_back most (path_in m condition) (path_in m accepted)
                (fine_front most (path_in m condition ++ path_in m accepted) (path_in m otherwise) fine);
          };
        };
        bounded = at_accepted;
      }
      by_decision (Some false) is = record {
        alike = record {
          value = sym (cond-true (value_in m condition == 0) (value_in m otherwise) (value_in m accepted)
              (decided_value m condition false is));
          path = record {
            fine = fine_back most (path_in m condition ++ path_in m accepted) (path_in m otherwise);
          };
        };
        bounded = at_otherwise;
      }
