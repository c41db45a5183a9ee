-- The program with words for numbers may stand in the place of the program.
use Rattle.std.proofs.Common.{◌≡◌, ℕ, ◌<◌, ◌≤◌, false, List, [], ◌++◌, length, map, Option, Some, option_map}
use Rattle.std.proofs.Common.{get_or, refl, ap, ap₂, ◌∙◌, arith, slice_get}
use Rattle.std.specs.Prelude.{nat_lt}
use Rattle.std.proofs.lemmas.Bool.{cond_both}
use Rattle.std.proofs.lemmas.List.{length-map, length-take}
use Rattle.std.proofs.lemmas.Option.{slice_get-get_or, slice_get_within}
use Rattle.branch_removal.proofs.Sequences.{after-chain, path-chain}
use Rattle.variable_room.specs.Below.{after_all, Arg, chain, counter_type, declaration_of, end_of}
use Rattle.variable_room.specs.Below.{FlatVariable, IsReplaced, IsStraight, outcome_of, path_along, path_of_result}
use Rattle.variable_room.specs.Below.{start, StraightBlock}
use Rattle.variable_room.specs.Below.{StraightProgram, StraightState, TermTree, types_of, with_variables, word_as}
use Rattle.variable_room.specs.declared.number_words.words.NumberWord.{NumberWord}
use Rattle.straight_words.specs.element_words.Limits.{most_variable_words}
use Rattle.variable_room.specs.number_words.private.Plan.{chosen, most_words, NumberPlan, plan_of}
use Rattle.variable_room.specs.number_words.private.Plan.{variable_of, worded_by, worded_program}
use Rattle.variable_room.specs.number_words.private.Uses.{uses_of}
use Rattle.variable_room.specs.number_words.private.Wording.{settings, worded, worded_all}
use Rattle.variable_room.proofs.number_words_lemmas.Held.{are_behind, AreNumbered, chosen_numbered, IsSetUp, no_path}
use Rattle.variable_room.proofs.number_words_lemmas.Held.{set_up}
use Rattle.variable_room.proofs.number_words_lemmas.Runs.{all_follow, InStep}
use Rattle.variable_room.proofs.number_words_lemmas.Values.{result_stands}
use Rattle.straight_words.proofs.over_lemmas.Beside.{AreBeside, RunsBeside}
use Rattle.straight_words.proofs.over_lemmas.Starts.{given_front, same_arrays}
use Rattle.straight_words.proofs.over_lemmas.Values.{both, IsNoWorse, IsResultAlike}
use Rattle.straight_words.proofs.over_lemmas.Whole.{is_replaced}

-- a program with these words
abbrev pub with_words : List NumberWord → StraightProgram → StraightProgram
with_words words p = worded_by (record { declared = p.declared ++ map variable_of words; words = words }) p

module _ (p : StraightProgram) (is_straight : IsStraight p) (words : List NumberWord)
    (are : AreNumbered (length p.declared) words) where
  abbrev count : ℕ
  count = length p.declared

  abbrev made_of : StraightProgram
  made_of = with_words words p

  listed : (y : ℕ) → y < count → slice_get p.declared y ≡ Some (get_or p.declared y (word_as counter_type false))
  listed y below = slice_get-get_or p.declared y (word_as counter_type false) below

  module _ (args : List Arg) where
    -- once the words are set
    abbrev ready : StraightState
    ready = after_all (start made_of args) (settings words)

    set : IsSetUp count words (start made_of args) ready
    set = set_up count words are (start made_of args)

    starts : AreBeside (InStep p.declared words (are_behind count words are)) (start p args) ready
    starts = record {
      variables = record {
        same = λ y below.
            set.others y below
            ∙ given_front p.declared (map variable_of words) args y
            (get_or p.declared y (word_as counter_type false)) (listed y below);
        hold = set.hold;
      };
      controls = set.controls;
    }

    ends : RunsBeside (InStep p.declared words (are_behind count words are)) p.iterations (start p args) ready p.body
        (worded_all words p.body)
    ends =
        all_follow p.declared words (are_behind count words are) p.iterations p.profile p.controls p.body
        is_straight.typed.body starts

    end_is : end_of made_of args ≡ (after_all ready (worded_all words p.body)).variables
    end_is =
        ap (λ (s : StraightState). s.variables)
        (after-chain (start made_of args) (settings words) (worded_all words p.body))

    path_is : path_along (start made_of args) made_of.body ≡ path_along ready (worded_all words p.body)
    path_is =
        path-chain (start made_of args) (settings words) (worded_all words p.body)
        ∙ ap (λ path. path ++ path_along ready (worded_all words p.body)) (no_path words (start made_of args))

    result : IsResultAlike p.iterations (end_of p args) (after_all ready (worded_all words p.body)).variables p.value
        (option_map (worded words) p.value)
    result =
        result_stands count words p.iterations (types_of p.profile p.declared)
        (λ y d there. slice_get_within p.declared y d there) p.returned p.value is_straight.typed.result
        ends.beside.variables

    few : length p.parameters ≤ count
    few =
        let shorter = length-take (length p.parameters) p.declared in
        let same = length-map p.parameters declaration_of in
        omega (arith, ap length is_straight.typed.parameters, shorter, same)

    same_outcome : outcome_of made_of args ≡ outcome_of p args
    same_outcome =
        rw end_is
        (ap₂ (λ (v : Option ℕ) (a : List (List ℕ)). record { returned = v; arrays = a }) result.value
        (same_arrays 0 p.parameters (end_of p args) (after_all ready (worded_all words p.body)).variables
        (λ y from to. ends.beside.variables.same y (omega (arith, few)))))

    same_path : IsNoWorse p.iterations (path_along (start p args) p.body ++ path_of_result (end_of p args) p.value)
        (path_along (start made_of args) made_of.body ++ path_of_result (end_of made_of args) made_of.value)
    same_path = rw (path_is, end_is) (both p.iterations ends.path result.path)

  pub replaced_by : IsStraight made_of → IsReplaced p made_of
  replaced_by =
      is_replaced p made_of.declared made_of.body made_of.value (λ args within. (same_outcome args, same_path args))

pub replaced : (p : StraightProgram) → IsStraight p → IsStraight (worded_program p) → IsReplaced p (worded_program p)
replaced p is_straight =
    let all = chosen (length p.declared) (uses_of p) in
    cond_both (nat_lt most_variable_words (length p.declared)) [] all
    (λ words. IsStraight (with_words words p) → IsReplaced p (with_words words p))
    (λ many. replaced_by p is_straight [] tt)
    (λ few. replaced_by p is_straight all (chosen_numbered (length p.declared) most_words (uses_of p)))

-- a program of these words is the one that is defined
pub as_worded : (p : StraightProgram) (plan : NumberPlan) (declared : List FlatVariable) (words : List NumberWord)
    (body front code : StraightBlock) (given value : Option TermTree) → plan ≡ plan_of p → declared ≡ plan.declared
    → words ≡ plan.words → body ≡ p.body → front ≡ settings words → code ≡ chain front (worded_all words body)
    → given ≡ p.value → value ≡ option_map (worded words) given
    → with_variables p declared code value ≡ worded_program p
as_worded p plan declared words body front code given value is variables table whole before made_code result
    made_value =
    rw (variables, made_code, before, made_value, result, whole, table, is) refl
