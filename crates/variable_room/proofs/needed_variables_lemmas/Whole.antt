-- A program with the variables that it needs may stand in the place of the program.
use Rattle.std.proofs.Common.{◌≡◌, ℕ, zero, suc, ◌<◌, Bool, true, false, if◌then◌else◌, List, [], ◌∷◌, drop, length}
use Rattle.std.proofs.Common.{None, replicate, slice_get, Some, unwrap_or, refl, sym, ap, subst, ◌∙◌, arith}
use Rattle.std.proofs.Common.{take as first_of}
use Rattle.std.proofs.lemmas.Option.{none-some, same_Some}
use Rattle.variable_room.specs.Below.{Arg, checked, FlatVariable, given, IsReplaced, IsStraight, numbers_in, path_of}
use Rattle.variable_room.specs.Below.{redeclared, StraightProgram, with_variables}
use Rattle.branch_removal.specs.Checked.{is_checked}
use Rattle.variable_room.specs.needed_variables.Exact.{fitted_of, needed_of}
use Rattle.variable_room.specs.needed_variables.private.Named.{named_of, needed_from}
use Rattle.variable_room.specs.set_first.Order.{program_sets_first}
use Rattle.variable_room.specs.set_first.Starts.{AgreeOnParameters}
use Rattle.straight_words.proofs.over_lemmas.Values.{IsNoWorse, same_path}
use Rattle.straight_words.proofs.over_lemmas.Whole.{is_replaced}
use Rattle.variable_room.proofs.set_first_lemmas.Alike.{only_parameters}

at_front : {ds es : List FlatVariable} → ds ≡ es → slice_get ds 0 ≡ slice_get es 0
at_front same = ap (λ (fs : List FlatVariable). slice_get fs 0) same

-- what is given to variables that begin alike
given_alike : (n : ℕ) (ds es : List FlatVariable) (args : List Arg) (x : ℕ) → first_of n ds ≡ first_of n es → x < n
    → given ds args x ≡ given es args x
given_alike zero ds es args x same below = absurd (omega (arith, below))
given_alike (suc n) [] [] args x same below = refl
given_alike (suc n) [] (e ∷ es) args x same below = absurd (none-some e (at_front same))
given_alike (suc n) (d ∷ ds) [] args x same below = absurd (none-some d (sym (at_front same)))
given_alike (suc n) (d ∷ ds) (e ∷ es) [] zero same below =
    ap (λ (f : FlatVariable). replicate (numbers_in f.elements) 0) (same_Some d e (at_front same))
given_alike (suc n) (d ∷ ds) (e ∷ es) (arg ∷ args) zero same below = refl
given_alike (suc n) (d ∷ ds) (e ∷ es) args (suc x) same below =
    given_alike n ds es (drop 1 args) x (ap (λ (fs : List FlatVariable). drop 1 fs) same) (omega (arith, below))

-- other variables make no difference to a program that sets each before it reads it
module _ (p : StraightProgram) (sets : program_sets_first p ≡ true) (is : IsStraight p) (declared : List FlatVariable)
  where
    abbrev made : StraightProgram
    made = with_variables p declared p.body p.value

    agree : IsStraight made → (args : List Arg) → AgreeOnParameters p (given declared args) (given p.declared args)
    agree straight args x below =
        given_alike (length p.parameters) declared p.declared args x
        (straight.typed.parameters ∙ sym is.typed.parameters) below

    pub made_replaced : IsStraight made → IsReplaced p made
    made_replaced straight =
        is_replaced p declared p.body p.value (λ args within.
        let same = only_parameters p (given declared args) (given p.declared args) sets (agree straight args) in
        (same.0, subst (IsNoWorse p.iterations (path_of p args)) (sym same.1) (same_path p.iterations))) straight

-- straight code may stand in its own place
itself : (p : StraightProgram) → IsStraight p → IsReplaced p p
itself p straight =
    is_replaced p p.declared p.body p.value (λ args within. (refl, same_path p.iterations)) straight

-- a program where it passes, and one that sets each variable first
abbrev tested : Bool → StraightProgram → StraightProgram → StraightProgram
tested b p q = unwrap_or (if b then Some q else None) p

abbrev ordered : Bool → StraightProgram → StraightProgram
ordered b p = redeclared p (if b then needed_from (named_of p) 0 p.declared else p.declared)

redeclared_replaced : (p : StraightProgram) (declared : List FlatVariable) → IsStraight p
    → (IsStraight (with_variables p declared p.body p.value)
    → IsReplaced p (with_variables p declared p.body p.value))
    → IsStraight (redeclared p declared) → IsReplaced p (redeclared p declared)
unfolding redeclared checked
redeclared_replaced p declared is made = by_test (is_checked (with_variables p declared p.body p.value))
  where
    by_test : (b : Bool) → IsStraight (tested b p (with_variables p declared p.body p.value))
        → IsReplaced p (tested b p (with_variables p declared p.body p.value))
    by_test true straight = made straight
    by_test false straight = itself p is

pub replaced : (p : StraightProgram) → IsStraight p → IsStraight (fitted_of p) → IsReplaced p (fitted_of p)
unfolding fitted_of needed_of
replaced p is = by_order (program_sets_first p) refl
  where
    by_order : (b : Bool) → program_sets_first p ≡ b → IsStraight (ordered b p) → IsReplaced p (ordered b p)
    by_order true sets straight =
        let declared = needed_from (named_of p) 0 p.declared in
        redeclared_replaced p declared is (made_replaced p sets is declared) straight
    by_order false not straight = redeclared_replaced p p.declared is (λ same. itself p is) straight
