-- Code in which upper words of products are operators leaves the state that the code leaves, and its path is fine where
-- that of the code is.
use Rattle.std.proofs.Common.{◌≡◌, ℕ, ◌-◌, List, [], ◌∷◌, map, Option, None, Some, option_map, refl, ap, ap₂}
use Rattle.std.proofs.Common.{◌∙◌, arith, if◌then◌else◌}
use Rattle.optimisation.specs.Below.{after, after_all, AllSuit, AreTyped, array, binary, branch, counted, first, Fits}
use Rattle.optimisation.specs.Below.{FlatVariable, holds, IsResult, IsTyped, nothing, of_binary, of_conversion}
use Rattle.optimisation.specs.Below.{of_element, of_number, of_prefix, of_rotation, of_selection, of_truth, of_variable}
use Rattle.optimisation.specs.Below.{path_along, path_at, Place, Profile, put, repeats, set, StraightBlock}
use Rattle.optimisation.specs.Below.{StraightState}
use Rattle.optimisation.specs.Below.{StraightTree, take, TermHasType, TermTree, Types, types_but, types_of, value_at}
use Rattle.optimisation.specs.Below.{Values, with_element, with_variable, WordType}
use Rattle.inline.proofs.Fitting.{value_fits}
use Rattle.optimisation.specs.declared.high_products.shapes.Factors.{Factors}
use Rattle.optimisation.specs.high_products.private.Replacing.{product_of, replaced, replaced_all, replaced_in}
use Rattle.optimisation.specs.high_products.private.Shapes.{upper_word}
use Rattle.straight_words.specs.private.Rewriting.{instead_or}
use Rattle.optimisation.proofs.constants_lemmas.Held.{counted_fits, counter_limit, fewer_fit, fits_after}
use Rattle.optimisation.proofs.constants_lemmas.Held.{fits_after_all}
use Rattle.optimisation.proofs.constants_lemmas.Same.{iterations_alike}
use Rattle.optimisation.proofs.high_products_lemmas.ShapeValues.{same_value}
use Rattle.straight_words.proofs.over_lemmas.Beside.{branch_path, loop_path}
use Rattle.straight_words.proofs.over_lemmas.Values.{all_values_alike, AreAllAlike, at_index, binary_alike, both}
use Rattle.straight_words.proofs.over_lemmas.Values.{convert_alike, element_alike, IsAlike, IsNoWorse, IsResultAlike}
use Rattle.straight_words.proofs.over_lemmas.Values.{prefix_alike, rotate_alike, same_path, select_alike}

module _ (most : List ℕ) where
  -- Expressions.

  module _ (types : Types) (m : Values) (fits : Fits types m) where
    -- an expression may be the operator between its factors, where it has some
    with_factors : (e : TermTree) (word : WordType) → TermHasType types e word → (place : Place) (other : TermTree)
        (o : Option Factors) → upper_word e ≡ o → IsAlike most m m e other
        → IsAlike most m m e (instead_or (option_map (product_of place) o) other)
    with_factors e word has place other None is alike = alike
    with_factors e word has place other (Some f) is alike = record {
      value = same_value m types fits e word has f is;
      path = record { fine = λ fine. (tt, tt) };
    }

    pub stands : {e : TermTree} {word : WordType} → TermHasType types e word → IsAlike most m m e (replaced e)
    stands (of_number below) = record { value = refl; path = same_path most }
    stands of_truth = record { value = refl; path = same_path most }
    stands (of_variable there) = record { value = refl; path = same_path most }
    stands (of_prefix has takes even) = prefix_alike (stands has)
    stands (of_binary {place = place} {operator = operator} {width = width} {left = left} {right =
        right} {whole = whole} has more makes even) =
        let e = binary place operator width left right in
        with_factors e whole (of_binary has more makes even) place
        (binary place operator width (replaced left) (replaced right)) (upper_word e) refl
        (binary_alike (stands has) (stands more))
    stands (of_rotation has numeric low high even) = rotate_alike (stands has)
    stands (of_conversion has numeric) = convert_alike (stands has)
    stands (of_selection chooser has more) = select_alike (stands chooser) (stands has) (stands more)
    stands (of_element there has) = element_alike refl (stands has)

    pub all_stand : (word : WordType) (es : List TermTree) → AllSuit types word es
        → AreAllAlike most m m es (map replaced es)
    all_stand word [] suit = record { values = refl; filled = λ size. refl; path = same_path most }
    all_stand word (e ∷ es) suit = all_values_alike (stands suit.0.has_type) (all_stand word es suit.1)

    pub result_stands : (returned : Option WordType) (value : Option TermTree) → IsResult types returned value
        → IsResultAlike most m m value (option_map replaced value)
    result_stands None None is = record { value = refl; path = same_path most }
    result_stands (Some word) (Some value) is =
        let a = stands is.has_type in record { value = ap Some a.value; path = a.path }
    result_stands returned value is = absurd is

  -- Statements.

  -- a statement that does the same from a state
  record DoesTheSame (s : StraightState) (statement other : StraightTree) : Type 0 where
    after : after s other ≡ after s statement
    path : IsNoWorse most (path_at s statement) (path_at s other)

  -- and a block
  pub record AllDoTheSame (s : StraightState) (body code : StraightBlock) : Type 0 where
    pub after : after_all s code ≡ after_all s body
    pub path : IsNoWorse most (path_along s body) (path_along s code)

  module _ (profile : Profile) (declared : List FlatVariable) (controls : ℕ) where
    abbrev types : Types
    types = types_of profile declared

    abbrev Holds : StraightState → Type 0
    Holds s = Fits types s.variables

    mutual
      same : (statement : StraightTree) → IsTyped profile declared controls statement → (s : StraightState) → Holds s
          → DoesTheSame s statement (replaced_in statement)
      same (set within x value) is s fits =
          let a = stands types s.variables fits is.1.suits.has_type in
          record { after = rw a.value refl; path = a.path }
      same (array x size values) is s fits =
          let a = all_stand (types_but profile declared x) s.variables (fewer_fit profile declared x s.variables fits)
          is.word values is.suit in
          record { after = ap (with_variable s x) (a.filled size); path = a.path }
      same (put within place x size index value) is s fits =
          let i = stands types s.variables fits is.1.index_type in
          let a = stands types s.variables fits is.1.suits.has_type in
          record {
            after = ap₂ (λ i v. if holds s within then with_element s x i v else s) i.value a.value;
            path = both most i.path (at_index most place size i.value a.path);
          }
      same (take control within condition) is s fits =
          let a = stands types s.variables fits is.2.1 in
          record { after = rw a.value refl; path = a.path }
      same (branch condition accepted otherwise) is s fits =
          let chooser = stands types s.variables fits is.0 in
          let a = all_same accepted is.1 s fits in
          let b = all_same otherwise is.2 s fits in
          record {
            after = rw (chooser.value, b.after, a.after) refl;
            path = branch_path most s s accepted otherwise (replaced_all accepted) (replaced_all otherwise) chooser
                a.path b.path;
          }
      same (repeats x low high body) is s fits =
          let from = stands types s.variables fits is.0 in
          let to = stands types s.variables fits is.1 in
          let code = replaced_all body in
          let low_fits = value_fits types s.variables fits is.0 in
          let high_fits = value_fits types s.variables fits is.1 in
          let run = iterations_alike most Holds (λ i t. after_all (counted x i t) code)
          (λ i t. after_all (counted x i t) body) (λ i t. path_along (counted x i t) code)
          (λ i t. path_along (counted x i t) body) counter_limit
          (λ i t below held.
          let begun = counted_fits profile declared x i is.2 below t held in
          let one = all_same body is.3 (counted x i t) begun in
          (one.after, one.path, fits_after_all profile declared controls body is.3 (counted x i t) begun))
          (value_at s high - value_at s low) (value_at s low) s (omega (arith, low_fits, high_fits)) fits in
          record {
            after = rw (from.value, to.value) run.0;
            path = loop_path most s s x body code from to run.1;
          }

      pub all_same : (body : StraightBlock) → AreTyped profile declared controls body → (s : StraightState) → Holds s
          → AllDoTheSame s body (replaced_all body)
      all_same nothing is s fits = record { after = refl; path = same_path most }
      all_same (first statement rest) is s fits =
          let one = same statement is.0 s fits in
          let others = all_same rest is.1 (after s statement)
          (fits_after profile declared controls statement is.0 s fits) in
          record {
            after = ap (λ (t : StraightState). after_all t (replaced_all rest)) one.after ∙ others.after;
            path = both most one.path (rw one.after others.path);
          }
