-- The program with words may stand in the place of the program.
use Rattle.std.proofs.Common.{◌≡◌, ℕ, zero, suc, ◌+◌, ◌<◌, ◌≤◌, true, false, List, [], ◌∷◌}
use Rattle.std.proofs.Common.{◌++◌, length, replicate, Option, None, Some, option_map, slice_get}
use Rattle.std.proofs.Common.{get_or, slice_index, refl, sym, ap, ap₂, ◌∙◌, arith, take as first_of}
use Rattle.std.specs.Prelude.{nat_lt}
use Rattle.std.proofs.lemmas.Bool.{cond_both}
use Rattle.std.proofs.lemmas.List.{length-map, length-replicate, length-take}
use Rattle.std.proofs.lemmas.Option.{none-some, same_Some, slice_get-get_or, slice_get_within}
use Rattle.language.proofs.arguments_lemmas.FaultLemmas.{length-AreWithin}
use Rattle.straight_words.specs.Below.{AreWithin, Arg, counter_type, declaration_of, end_of}
use Rattle.straight_words.specs.Below.{FlatVariable, given, IsReplaced, IsStraight, numbers_in, outcome_of, start}
use Rattle.straight_words.specs.Below.{StraightBlock, StraightProgram, TermTree, with_variables, word_as}
use Rattle.straight_words.specs.declared.element_words.parts.SplitArray.{SplitArray}
use Rattle.straight_words.specs.element_words.Limits.{most_variable_words}
use Rattle.straight_words.specs.element_words.private.Narrowing.{narrowed_by_all}
use Rattle.straight_words.specs.element_words.private.Parts.{Parts, part_of, candidates, numbered, all_words}
use Rattle.straight_words.specs.element_words.private.Plan.{WordPlan, room_beside, used_parts, plan_of, split_by}
use Rattle.straight_words.specs.element_words.private.Plan.{split_program}
use Rattle.straight_words.specs.element_words.private.Splitting.{split, split_all}
use Rattle.straight_words.proofs.element_words_lemmas.PartLemmas.{IsBelow, below_itself, IsArray, found_array}
use Rattle.straight_words.proofs.element_words_lemmas.PartLemmas.{candidate_is, are_numbered, made, IsSplitting}
use Rattle.straight_words.proofs.element_words_lemmas.PartLemmas.{splitting}
use Rattle.straight_words.proofs.element_words_lemmas.Known.{before_all, before_result}
use Rattle.straight_words.proofs.element_words_lemmas.Values.{result_alike}
use Rattle.straight_words.proofs.element_words_lemmas.Held.{zeros_at}
use Rattle.straight_words.proofs.element_words_lemmas.Runs.{InStep, all_follow}
use Rattle.straight_words.proofs.over_lemmas.Values.{both, IsResultAlike}
use Rattle.straight_words.proofs.over_lemmas.Beside.{AreBeside, RunsBeside}
use Rattle.straight_words.proofs.over_lemmas.Starts.{given_front, same_arrays}
use Rattle.straight_words.proofs.over_lemmas.Whole.{is_replaced}

-- What the variables hold at first.

-- behind the arguments there are zeros
given_behind : (declared : List FlatVariable) (args : List Arg) (x : ℕ) (d : FlatVariable) → length args ≤ x
    → slice_get declared x ≡ Some d → given declared args x ≡ replicate (numbers_in d.elements) 0
given_behind [] args x d few is = absurd (none-some d is)
given_behind (e ∷ declared) [] zero d few is =
    ap (λ (f : FlatVariable). replicate (numbers_in f.elements) 0) (same_Some e d is)
given_behind (e ∷ declared) (arg ∷ args) zero d few is = absurd (omega arith)
given_behind (e ∷ declared) [] (suc x) d few is = given_behind declared [] x d (omega arith) is
given_behind (e ∷ declared) (arg ∷ args) (suc x) d few is = given_behind declared args x d (omega arith) is

module _ (p : StraightProgram) (is_straight : IsStraight p) (parts : Parts)
    (is_splitting : IsSplitting p.declared (p.declared ++ all_words parts) parts)
    (below : IsBelow parts (used_parts p))
    (behind : (x : ℕ) (part : SplitArray) → part_of parts x ≡ Some part → length p.parameters ≤ x) where
  abbrev new : List FlatVariable
  new = p.declared ++ all_words parts

  abbrev made_of : StraightProgram
  made_of = with_variables p new (split_all parts p.body) (option_map (split parts) p.value)

  parameters_there : length (first_of (length p.parameters) p.declared) ≡ length p.parameters
  parameters_there = ap length is_straight.typed.parameters ∙ length-map p.parameters declaration_of

  module _ (args : List Arg) (within : AreWithin p.parameters args) where
    few : length args ≡ length p.parameters
    few = length-AreWithin p.parameters args within

    starts : AreBeside (InStep p.declared new parts is_splitting) (start p args) (start made_of args)
    starts = record {
      variables = record {
        plain = λ y d there stays. given_front p.declared (all_words parts) args y d there;
        held = λ y d part there is.
            let array = is_splitting.arrays y part is in
            let first : given p.declared args y ≡ replicate part.size 0 =
            given_behind p.declared args y array.listed (omega (arith, few, behind y part is)) array.known
            ∙ ap (λ e. replicate (numbers_in e) 0) array.size in
            record {
              count = ap length first ∙ length-replicate part.size 0;
              each = λ i below.
                  given_behind new args (part.base + i) (word_as part.word true)
                  (omega (
                    arith,
                    few,
                    behind y part is,
                    is_splitting.behind y part is,
                    slice_get_within p.declared y d there,
                  ))
                  (is_splitting.words y part i is below)
                  ∙ ap (λ n. n ∷ []) (sym (ap (λ numbers. slice_index numbers i) first ∙ zeros_at part.size i));
            };
      };
      controls = refl;
    }

    ends : RunsBeside (InStep p.declared new parts is_splitting) p.iterations (start p args) (start made_of args) p.body
        (split_all parts p.body)
    ends =
        all_follow p.declared new parts is_splitting p.iterations p.profile p.controls p.body is_straight.typed.body
        (candidates (length p.parameters) p.declared)
        (before_result parts p.value (narrowed_by_all (candidates (length p.parameters) p.declared) p.body) below)
        starts

    result : IsResultAlike p.iterations (end_of p args) (end_of made_of args) p.value made_of.value
    result =
        result_alike p.declared new parts is_splitting p.iterations p.profile (λ y. slice_get p.declared y)
        (λ y d there. there) p.returned p.value is_straight.typed.result
        (narrowed_by_all (candidates (length p.parameters) p.declared) p.body) below ends.beside.variables

    parameter_stays : (y : ℕ) → y < length p.parameters → (o : Option SplitArray) → part_of parts y ≡ o → o ≡ None
    parameter_stays y below None same = refl
    parameter_stays y below (Some part) same = absurd (omega (arith, behind y part same))

    same_parameters : (y : ℕ) → 0 ≤ y → y < 0 + length p.parameters → end_of made_of args y ≡ end_of p args y
    same_parameters y from to =
        let d = word_as counter_type false in
        let listed : y < length p.declared =
        omega (arith, parameters_there, length-take (length p.parameters) p.declared) in
        ends.beside.variables.plain y (get_or p.declared y d) (slice_get-get_or p.declared y d listed)
        (parameter_stays y (omega arith) (part_of parts y) refl)

    same_outcome : outcome_of made_of args ≡ outcome_of p args
    same_outcome =
        ap₂ (λ (v : Option ℕ) (a : List (List ℕ)). record { returned = v; arrays = a }) result.value
        (same_arrays 0 p.parameters (end_of p args) (end_of made_of args) same_parameters)

  pub replaced_by : IsStraight made_of → IsReplaced p made_of
  replaced_by =
      is_replaced p new (split_all parts p.body) (option_map (split parts) p.value)
      (λ args within. (
        same_outcome args within,
        both p.iterations (ends args within).path (result args within).path,
      ))

-- The arrays that are chosen.

-- which of a program's arrays were candidates, and what becomes of it
module _ (p : StraightProgram) (is_straight : IsStraight p) (last : Parts) (below : IsBelow last (used_parts p)) where
  was_candidate : (x : ℕ) (part : SplitArray) → part_of last x ≡ Some part
      → (length p.parameters ≤ x) × IsArray p.declared x part
  was_candidate x part is =
      let from = candidates (length p.parameters) p.declared in
      let behind = before_result last p.value (narrowed_by_all from p.body) below in
      let found = before_all last p.body from behind x part is in
      let was = candidate_is (length p.parameters) p.declared x found.other found.there in
      (was.0, found_array p.declared x part found was.1)

  pub replaced_of : IsSplitting p.declared (p.declared ++ all_words last) last
      → IsStraight (split_by (record { declared = p.declared ++ all_words last; parts = last }) p)
      → IsReplaced p (split_by (record { declared = p.declared ++ all_words last; parts = last }) p)
  replaced_of is_splitting =
      replaced_by p is_straight last is_splitting below (λ x part is. (was_candidate x part is).0)

-- where these are the parts
abbrev pub split_with : Parts → StraightProgram → StraightProgram
split_with parts p = split_by (record { declared = p.declared ++ all_words parts; parts = parts }) p

pub replaced : (p : StraightProgram) → IsStraight p → IsStraight (split_program p) → IsReplaced p (split_program p)
replaced p is_straight =
    let room = room_beside p.declared in
    let all = numbered (length p.declared) room (used_parts p) in
    let numbers = are_numbered (length p.declared) room (used_parts p) in
    cond_both (nat_lt most_variable_words (length p.declared)) [] all
    (λ parts. IsStraight (split_with parts p) → IsReplaced p (split_with parts p))
    (λ many. replaced_of p is_straight [] (λ x part is. absurd (none-some part is))
    (splitting p.declared 0 [] (λ x part is. absurd (none-some part is))))
    (λ few. replaced_of p is_straight all (λ x part is. (made numbers x part is).found)
    (splitting p.declared room (used_parts p)
    (λ x part is. (was_candidate p is_straight (used_parts p) below_itself x part is).1)))

-- a program of these parts is the one with words
pub as_split : (p : StraightProgram) (plan : WordPlan) (declared : List FlatVariable) (parts : Parts)
    (body code : StraightBlock) (given value : Option TermTree)
    → plan ≡ plan_of p → declared ≡ plan.declared → parts ≡ plan.parts → body ≡ p.body
    → code ≡ split_all parts body → given ≡ p.value → value ≡ option_map (split parts) given
    → with_variables p declared code value ≡ split_program p
as_split p plan declared parts body code given value is variables table whole made_code result made_value =
    rw (variables, made_code, made_value, result, whole, table, is) refl
