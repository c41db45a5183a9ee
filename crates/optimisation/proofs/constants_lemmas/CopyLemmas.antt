-- Variables that are set to others, and may be read as these.
use Rattle.std.proofs.Common.{◌≡◌, ℕ, ◌==◌, Bool, true, false, not, List, Option, None, Some, slice_get, slice_index}
use Rattle.std.proofs.Common.{⊎_elim, refl, ap, subst}
use Rattle.std.proofs.lemmas.Bool.{and_parts, eqb-false, not-true}
use Rattle.std.proofs.lemmas.Option.{none-some, same_Some}
use Rattle.optimisation.specs.Below.{FlatVariable, TermTree, value_in, Values, variable}
use Rattle.straight_words.specs.private.SameWords.{are_alike}
use Rattle.optimisation.specs.declared.constants.known.Constant.{Constant}
use Rattle.optimisation.specs.declared.constants.known.WordCopy.{WordCopy}
use Rattle.optimisation.specs.constants.private.Folding.{constant_of}
use Rattle.optimisation.specs.constants.private.Known.{WordFacts, with_word}
use Rattle.optimisation.specs.constants.private.Simplification.{copied, copied_where, may_be_read_as, set_to}
use Rattle.optimisation.specs.constants.private.Simplification.{variable_of}
use Rattle.optimisation.proofs.constants_lemmas.KnownLemmas.{Fact, valued, copy, IsFree, Knows, in_more, word_by}

-- the value of what is a variable
pub read_value : (m : Values) (e : TermTree) (y : ℕ) → variable_of e ≡ Some y → value_in m e ≡ slice_index (m y) 0
read_value m (variable x) y is = ap (λ z. slice_index (m z) 0) (same_Some x y is)
read_value m e y is = absurd (none-some y is)

-- these are two variables
pub two_variables : (declared : List FlatVariable) (x y : ℕ) → may_be_read_as declared x y ≡ true → x ≡ y → ⊥
two_variables declared x y is =
    eqb-false x y (not-true (x == y)
    (and_parts (not (x == y)) (are_alike (slice_get declared x) (slice_get declared y)) is).0)

-- what is known where a variable has been set to the value of an expression: its number, or that it is a copy, and what
-- was known of others
module _ (declared : List FlatVariable) (words : WordFacts) (x : ℕ) (e : TermTree) (P : Fact → Type 0)
    (numbered : (c : Constant) → constant_of e ≡ Some c → P (valued x c))
    (is_copy : (y : ℕ) → variable_of e ≡ Some y → may_be_read_as declared x y ≡ true
    → P (copy (record { variable = x; source = y })))
    (known_before : (f : Fact) → IsFree x f → Knows words f → P f) where
  with_number : (f : Fact) → Knows (with_word words x (constant_of e)) f → P f
  with_number = word_by words x (constant_of e) P numbered known_before

  copied_by : (y : ℕ) → variable_of e ≡ Some y → (b : Bool) → may_be_read_as declared x y ≡ b → (f : Fact)
      → Knows (copied_where b x y (with_word words x (constant_of e))) f → P f
  copied_by y same false may f is = with_number f is
  copied_by y same true may (valued z c) is = with_number (valued z c) is
  copied_by y same true may (copy c) is =
      ⊎_elim (λ there. with_number (copy c) there)
      (λ here. subst (λ (d : WordCopy). P (copy d)) here (is_copy y same may))
      (in_more (with_word words x (constant_of e)) c (record { variable = x; source = y }) is)

  pub set_by : (f : Fact) → Knows (set_to declared words None x e) f → P f
  set_by f is = by_variable (variable_of e) refl is
    where
      by_variable : (o : Option ℕ) → variable_of e ≡ o
          → Knows (copied declared x o (with_word words x (constant_of e))) f → P f
      by_variable None same h = with_number f h
      by_variable (Some y) same h = copied_by y same (may_be_read_as declared x y) refl f h
