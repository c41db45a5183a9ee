-- Arguments at one call, asked one after the other.
use Rattle.std.proofs.Common.{◌≡◌, ◌<◌, ◌+◌, ℕ, Bool, true, false, not, ◌&&◌, List, [], ◌∷◌, ◌++◌, fold, map, drop}
use Rattle.std.proofs.Common.{length, refl, ap, sym, ◌∙◌, arith}
use Rattle.std.proofs.Math.ListN.{get_or}
use Rattle.std.proofs.lemmas.List.{drop_more}
use Rattle.std.proofs.lemmas.List.Sums.{fold-append}
use Rattle.labels.specs.Below.{are_alike, are_met, Argument, argument_violations, argument_why, because_of, Expr}
use Rattle.labels.specs.Below.{expr_tree, is_hidden, is_secret, Parameter, parameter_tree, Passed, passed}
use Rattle.labels.specs.Below.{passed_violations, Place, put_why, Scope, SecretToPublic, Noted, noted, Typed, value_rules}
use Rattle.labels.specs.Below.{Violation, when, widths_differ, WidthsDiffer, Word, WrongKind}
use Rattle.language.specs.declared.typing.WordType.{WordType}
use Rattle.language.specs.declared.why.TypedPart.{TypedPart}

pub are_met-append : {A : Type 0} (one rest : List A) → are_met (one ++ rest) ≡ (are_met one && are_met rest)
are_met-append [] rest = refl
are_met-append (x ∷ one) rest = refl

-- none more is violated as none before and none of these
pub met_more : (met fits all : Bool) (one rest : List Violation) → (met && are_met (one ++ rest)) ≡ all
    → fits ≡ are_met one →
    ((met && fits) && are_met rest) ≡ all
met_more true fits all one rest h f = ap (λ b. b && are_met rest) f ∙ sym (are_met-append one rest) ∙ h
met_more false fits all one rest h f = h

-- what arguments from one on violate
abbrev pub violated_from : ℕ → Scope → Place → List Parameter → List Typed → List Expr → List Violation
violated_from i scope place ps ts es =
    passed_violations scope place (passed (map parameter_tree (drop i ps)) (drop i ts) (map expr_tree (drop i es)))

-- an argument beside its parameter
abbrev pub beside : Parameter → Typed → ℕ → List Typed → Expr → Passed
beside p t i ts e = record {
  parameter = parameter_tree p;
  given = get_or ts i t;
  argument = expr_tree e;
}

module _ (p : Parameter) (t : Typed) (i : ℕ) (scope : Scope) (place : Place) (ps : List Parameter) (ts : List Typed)
    (es : List Expr) (e : Expr) (h : i < length ps) (same : length ts ≡ length ps) (same' : length es ≡ length ps)
    (here : p ≡ get_or ps i p) (is : e ≡ get_or es i e) where
  abbrev this : List Violation
  this = argument_violations scope place (beside p t i ts e)

  abbrev rest : List Violation
  rest = violated_from (i + 1) scope place ps ts es

  from-more : violated_from i scope place ps ts es ≡ this ++ rest
  from-more =
      rw (drop_more ps i p h, drop_more ts i t (omega arith), drop_more es i e (omega arith), ← here, ← is) refl

  pub from-met : (met fits all : Bool) → (met && are_met (violated_from i scope place ps ts es)) ≡ all
      → fits ≡ are_met this → ((met && fits) && are_met rest) ≡ all
  from-met met fits all so_far one =
      met_more met fits all this rest (ap (λ (l : List Violation). met && are_met l) (sym from-more) ∙ so_far) one

  pub from-noted : (seen later final : Noted)
      → fold noted seen (violated_from i scope place ps ts es) ≡ final → later ≡ fold noted seen this
      → fold noted later rest ≡ final
  from-noted seen later final so_far one =
      ap (λ s. fold noted s rest) one ∙ sym (fold-append noted seen this rest)
      ∙ ap (fold noted seen) (sym from-more) ∙ so_far

-- what a word violates as a value it violates as an argument, for the same reasons
pub put_as_argument : (place : Place) (wanted : TypedPart) (word : WordType) (given : Typed)
    → because_of (put_why wanted Argument given) place (value_rules word given.value)
    ≡ because_of (argument_why wanted given) place (value_rules word given.value)
put_as_argument place wanted word given =
    by (widths_differ (Word word) given.value) (are_alike (Word word) given.value)
    (not (is_secret word.label) && is_hidden given.value)
  where
    by : (uneven alike leaks : Bool)
        → because_of (put_why wanted Argument given) place
        (when uneven WidthsDiffer ++ when (not alike) WrongKind ++ when leaks SecretToPublic)
        ≡ because_of (argument_why wanted given) place
        (when uneven WidthsDiffer ++ when (not alike) WrongKind ++ when leaks SecretToPublic)
    by true true true = refl
    by true true false = refl
    by true false true = refl
    by true false false = refl
    by false true true = refl
    by false true false = refl
    by false false true = refl
    by false false false = refl
