-- The program in which loops are over groups may stand in the place of the program.
use Rattle.std.proofs.Common.{◌≡◌, ℕ, ◌<◌, ◌≤◌, false, List, [], ◌∷◌, ◌++◌, length, Option}
use Rattle.std.proofs.Common.{None, Some, option_map, get_or, refl, ap, ap₂, arith, slice_get}
use Rattle.std.specs.Prelude.{nat_le}
use Rattle.std.proofs.lemmas.List.{length-map, length-take}
use Rattle.std.proofs.lemmas.Option.{cond_some, slice_get-get_or}
use Rattle.optimisation.specs.Below.{Arg, chain, checked, counter_type, declaration_of, end_of, FlatVariable}
use Rattle.optimisation.specs.Below.{IsReplaced, IsStraight, nothing, outcome_of, path_along, path_of_result, start}
use Rattle.optimisation.specs.Below.{StraightBlock, StraightProgram, TermTree, types_of, with_variables, word_as}
use Rattle.straight_words.specs.element_words.Limits.{most_variable_words}
use Rattle.optimisation.specs.iteration_groups.private.Grouping.{base_behind, base_type, grouped_all, grouped_by}
use Rattle.optimisation.specs.iteration_groups.private.Grouping.{made_by, plan_of, shifted}
use Rattle.optimisation.proofs.iteration_groups_lemmas.Runs.{all_follow, InStep}
use Rattle.optimisation.proofs.iteration_groups_lemmas.Values.{result_stands}
use Rattle.straight_words.proofs.over_lemmas.Beside.{AreBeside, RunsBeside}
use Rattle.straight_words.proofs.over_lemmas.Starts.{given_front, same_arrays}
use Rattle.straight_words.proofs.over_lemmas.Values.{both, IsNoWorse, IsResultAlike}
use Rattle.straight_words.proofs.over_lemmas.Whole.{is_replaced}

-- the program over groups, with the base behind all variables
abbrev pub program_of : StraightProgram → StraightProgram
program_of p = grouped_by (p.declared ++ base_type ∷ []) p (length p.declared)

module _ (p : StraightProgram) (is_straight : IsStraight p) where
  abbrev count : ℕ
  count = length p.declared

  abbrev made_of : StraightProgram
  made_of = program_of p

  listed : (y : ℕ) → y < count → slice_get p.declared y ≡ Some (get_or p.declared y (word_as counter_type false))
  listed y below = slice_get-get_or p.declared y (word_as counter_type false) below

  module _ (args : List Arg) where
    starts : AreBeside (InStep p.declared None 0) (start p args) (start made_of args)
    starts = record {
      variables = record {
        same = λ y below apart.
            given_front p.declared (base_type ∷ []) args y
            (get_or p.declared y (word_as counter_type false)) (listed y below);
        hold = tt;
      };
      controls = refl;
    }

    ends : RunsBeside (InStep p.declared None 0) p.iterations (start p args) (start made_of args) p.body
        (grouped_all None count p.body)
    ends =
        all_follow p.declared count (omega arith) p.iterations p.profile p.controls None 0 tt p.body tt
        is_straight.typed.body starts

    result : IsResultAlike p.iterations (end_of p args) (end_of made_of args) p.value
        (option_map (shifted None) p.value)
    result =
        result_stands p.declared p.iterations None 0 tt (types_of p.profile p.declared) (λ y d there. there)
        p.returned p.value is_straight.typed.result ends.beside.variables

    few : length p.parameters ≤ count
    few =
        let shorter = length-take (length p.parameters) p.declared in
        let same = length-map p.parameters declaration_of in
        omega (arith, ap length is_straight.typed.parameters, shorter, same)

    same_outcome : outcome_of made_of args ≡ outcome_of p args
    same_outcome =
        ap₂ (λ (v : Option ℕ) (a : List (List ℕ)). record { returned = v; arrays = a }) result.value
        (same_arrays 0 p.parameters (end_of p args) (end_of made_of args)
        (λ y from to. ends.beside.variables.same y (omega (arith, few)) tt))

    no_worse : IsNoWorse p.iterations (path_along (start p args) p.body ++ path_of_result (end_of p args) p.value)
        (path_along (start made_of args) made_of.body ++ path_of_result (end_of made_of args) made_of.value)
    no_worse = both p.iterations ends.path result.path

  pub replaced : IsStraight made_of → IsReplaced p made_of
  replaced =
      is_replaced p made_of.declared made_of.body made_of.value (λ args within. (same_outcome args, no_worse args))

module _ (p : StraightProgram) (base : ℕ) (some : base_behind (length p.declared) ≡ Some base) where
  is_count : length p.declared ≡ base
  is_count = (cond_some (nat_le (length p.declared) most_variable_words) (length p.declared) base some).1

  -- with a base the program that is defined is this one, where it passes the test
  pub made_some : made_by (plan_of p) p ≡ checked (program_of p)
  made_some = rw (some, ← is_count) refl

  -- a program of these parts is that one
  pub as_grouped : (declared : List FlatVariable) (body front code : StraightBlock) (given value : Option TermTree)
      → declared ≡ p.declared ++ base_type ∷ [] → body ≡ p.body → front ≡ nothing
      → code ≡ chain front (grouped_all None base body) → given ≡ p.value → value ≡ option_map (shifted None) given
      → with_variables p declared code value ≡ program_of p
  as_grouped declared body front code given value variables before empty made_code result made_value =
      rw (variables, made_code, empty, before, made_value, result, ← is_count) refl

-- without one there is none
pub made_none : (p : StraightProgram) → base_behind (length p.declared) ≡ None → None ≡ made_by (plan_of p) p
made_none p none = rw none refl
