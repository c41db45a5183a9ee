-- The code of an expression puts the expression's value where it is found.
use Rattle.std.proofs.Common.{◌≡◌, ℕ, ◌+◌, ◌-◌, ◌*◌, ◌%◌, ◌≤◌, Some, slice_get, refl, ◌∙◌, arith, Bool, false, ◌==◌}
use Rattle.expression_code.proofs.Below.{array_as, by_test, cheaper, keeps_words, expr_code, gives}
use Rattle.expression_code.proofs.Below.{TermHasType, height_of, home_of, into_code, of_binary}
use Rattle.expression_code.proofs.Below.{of_conversion, of_element, of_number, of_prefix, of_rotation}
use Rattle.expression_code.proofs.Below.{of_selection, of_truth, of_variable, Place, slots_to}
use Rattle.expression_code.proofs.Below.{term_nodes, TermTree, types_of, value_in, variable, Width}
use Rattle.expression_code.proofs.Below.{word_of, WordType, working_register, element, reached_code}
use Rattle.expression_code.proofs.Below.{is_sign, prefix, prefixed_code, PrefixOperator, sum_offset}
use Rattle.expression_code.proofs.Frame.{Setting, base_of, by_option, Runs, terms_at}
use Rattle.expression_code.proofs.WorkRegisters.{IsTarget, own_target}
use Rattle.expression_code.proofs.Arithmetic.{if_not}
use Rattle.expression_code.proofs.OperatorCode.{truth_fits}
use Rattle.expression_code.proofs.Homes.{conversion_kept}
use Rattle.expression_code.proofs.Values.{Ready, Valued, ValuedIn, kind_fits}
use Rattle.expression_code.proofs.OperandRuns.{Lies, made, none_yet, placed, Slots, steps_of}
use Rattle.expression_code.proofs.OperandRuns.{still_ready, Typed}
use Rattle.expression_code.specs.Below.{Uint32}
use Rattle.expression_code.proofs.Indices.{sum_part, whole_part}
use Rattle.expression_code.proofs.NumberCode.{sum_known}
use Rattle.expression_code.proofs.NodeRuns.{before_runs, chosen_runs, compared_runs, constant, copied}
use Rattle.expression_code.proofs.NodeRuns.{near_by, operated_runs, reached, sign_runs, cut_runs}
use Rattle.expression_code.proofs.NodeRuns.{rotated_runs}

module _ (z : Setting) (free : ℕ) (aligned : free % 4 ≡ 0) (above : base_of z ≤ free) where
  abbrev slots : Slots
  slots = record { z = z; free = free; aligned = aligned; above = above }

  -- how many temporaries have registers
  abbrev count : ℕ
  count = z.allocation.count

  few : count ≤ 16
  few = z.allocated.few

  -- an expression whose value can come into any register comes into its place
  lies : {e : TermTree} {word : WordType} → Typed slots e word → (place : ℕ)
      → free + 4 * slots_to count (height_of e + place) ≤ z.size
      → ((d : ℕ) → IsTarget count place d → free + 4 * slots_to count (height_of e + place) ≤ z.size
      → Runs z (16 * term_nodes e - 3) (steps_of e) (into_code (terms_at z free) d place e) (Ready z)
      (ValuedIn z e free d place))
      → Lies slots e place
  lies has place room into = placed slots has place room (into _ (own_target count place few) room)

  mutual
    -- Each well-typed expression, into any register that its value may come into.
    pub into_runs : {e : TermTree} {word : WordType} → TermHasType (types_of z.code.profile z.declared) e word
        → (place d : ℕ) → IsTarget count place d → free + 4 * slots_to count (height_of e + place) ≤ z.size
        → Runs z (16 * term_nodes e - 3) (steps_of e) (into_code (terms_at z free) d place e) (Ready z)
        (ValuedIn z e free d place)
    into_runs (of_number {value = value} {kind = kind} below) place d target room =
        constant z free aligned above place d target value (λ m. refl) (kind_fits kind value below)
    into_runs (of_truth {value = value}) place d target room =
        constant z free aligned above place d target (word_of value) (λ m. refl) (truth_fits value)
    into_runs (of_variable {x = x} {word = word} {mutable = mutable} is) place d target room =
        cheaper (omega arith)
        (made slots place (λ j. variable x) d (none_yet slots place (λ j. variable x))
        (copied z free aligned above place d target is (home_of z.allocation.homes x) refl)
        (λ env s t ready done. still_ready slots place env s t ready done.held done.kept done.lower))
    into_runs (of_prefix {operator = operator} {width = width} has takes same) place d target room =
        prefixed_runs operator width has place d target room (lies has place room (into_runs has place))
    into_runs (of_binary {place = source} {operator = operator} {width = width} has more makes same) place d target room =
        operated_runs z free aligned above place d target source operator width has more makes (omega arith)
        (lies has place (omega arith) (into_runs has place))
        (lies more place (omega arith) (into_runs more place))
        (lies more (place + 1) (omega arith) (into_runs more (place + 1)))
    into_runs (of_rotation {width = width} {amount = amount} has numeric low high same) place d target room =
        rotated_runs z free aligned above place d target width amount has (omega arith)
        (lies has place room (into_runs has place))
    into_runs (of_conversion {kind = kind} has numeric) place d target room =
        by_test (keeps_words z.allocation kind)
        (λ keeps. cheaper (omega arith)
        (gives
        (λ env s t fine ready done. assumption (done.there ∙ conversion_kept z kind keeps has env s ready))
        (into_runs has place d target room)))
        (λ cuts.
        cut_runs z free aligned above place d target kind has (omega arith) (lies has place room (into_runs has place)))
    into_runs (of_selection (of_binary {place = source} {operator = operator} {width = width} has other makes same)
        chooses more) place d target room =
        compared_runs z free aligned above place d target source operator width has other makes same chooses more
        (omega arith)
        (λ o kept.
        lies (of_binary {place = source} {operator = o} has other kept same) place (omega arith)
        (λ d target room.
        operated_runs z free aligned above place d target source o width has other kept (omega arith)
        (lies has place (omega arith) (into_runs has place))
        (lies other place (omega arith) (into_runs other place))
        (lies other (place + 1) (omega arith) (into_runs other (place + 1)))))
        (lies chooses (place + 1) (omega arith) (into_runs chooses (place + 1)))
        (lies more (place + 2) (omega arith) (into_runs more (place + 2)))
    into_runs (of_selection {condition = condition} {accepted = accepted} {otherwise = otherwise} has chooses more) place d
        target room =
        chosen_runs z free aligned above place d target false has chooses more
        (λ v. (if_not (value_in v condition == 0) (value_in v accepted) (value_in v otherwise), refl)) (omega arith)
        (lies has place (omega arith) (into_runs has place))
        (lies chooses (place + 1) (omega arith) (into_runs chooses (place + 1)))
        (lies more (place + 2) (omega arith) (into_runs more (place + 2)))
    into_runs (of_element {place = source} {x = x} {index = index} is has) place d target room =
        near_by z free aligned above place d target source is index has refl
        (reached_runs has refl source is place d target room (lies has place room (into_runs has place)))

    -- an operator before an operand, whose value comes into its place
    prefixed_runs : (operator : PrefixOperator) (width : Width) {e : TermTree} {one : WordType} → Typed slots e one
        → (place d : ℕ) → IsTarget count place d → free + 4 * slots_to count (height_of e + place) ≤ z.size
        → Lies slots e place
        → Runs z (16 * (1 + term_nodes e) - 3) (steps_of (prefix operator width e))
        (prefixed_code (terms_at z free) d place operator width e
        (into_code (terms_at z free) (working_register count place 29) place e)) (Ready z)
        (ValuedIn z (prefix operator width e) free d place)
    prefixed_runs operator width (of_binary {place = source} {operator = shift} {width = narrow} {right = right} has more
        makes same) place d target room runs =
        by_test (is_sign z.allocation operator width shift right)
        (λ is. cheaper (omega arith)
        (sign_runs z free aligned above place d target source operator width shift narrow is has (omega arith)
        (lies has place (omega arith) (into_runs has place))))
        (λ other.
        before_runs z free aligned above place d target operator width
        (of_binary {place = source} {operator = shift} has more makes same) (omega arith) runs)
    prefixed_runs operator width has place d target room runs =
        before_runs z free aligned above place d target operator width has (omega arith) runs

    -- the element at an index that is not near, whose value comes into its place
    reached_runs : {index : TermTree} {type : WordType} → Typed slots index type → type.kind ≡ Uint32
        → (source : Place) {x size : ℕ} {word : WordType} {mutable : Bool}
        → slice_get z.declared x ≡ Some (array_as word mutable size)
        → (place d : ℕ) → IsTarget count place d → free + 4 * slots_to count (height_of index + place) ≤ z.size
        → Lies slots index place
        → Runs z (16 * (1 + term_nodes index) - 3) (steps_of (element source x size index))
        (reached_code (terms_at z free) d place x index
        (into_code (terms_at z free) (working_register count place 29) place index)) (Ready z)
        (ValuedIn z (element source x size index) free d place)
    reached_runs (of_binary {place = sum} {operator = operator} {width = width} {right = right} has more makes same)
        uint source {x = x} {size = size} {word = word} {mutable = mutable} is place d target room runs =
        by_option (sum_offset z.laid z.allocation x operator right)
        (λ o near.
        let number = sum_known z.laid z.allocation x operator right o near in
        reached z free aligned above place d target source is
        (sum_part z x size word mutable is sum width has makes uint same number) (omega arith)
        (lies has place (omega arith) (into_runs has place)))
        (λ far.
        reached z free aligned above place d target source is
        (whole_part z x size word mutable is (of_binary {place = sum} {operator = operator} has more makes same))
        (omega arith) runs)
    reached_runs has uint source {x = x} {size = size} {word = word} {mutable = mutable} is place d target room runs =
        reached z free aligned above place d target source is (whole_part z x size word mutable is has) (omega arith) runs

  -- and into any place
  pub expr_runs : {e : TermTree} {word : WordType} → TermHasType (types_of z.code.profile z.declared) e word →
      (place : ℕ)
      → free + 4 * slots_to count (height_of e + place) ≤ z.size
      → Runs z (16 * term_nodes e) (steps_of e) (expr_code (terms_at z free) place e) (Ready z)
      (Valued z e free place)
  expr_runs has place room = lies has place room (into_runs has place)
