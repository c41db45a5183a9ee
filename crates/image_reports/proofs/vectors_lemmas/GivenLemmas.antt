-- What is given of arguments within the parameter types has no fault.
use Rattle.std.proofs.Common.{◌≡◌, ◌≢◌, ℕ, suc, ◌+◌, List, [], ◌∷◌, length, Option, None, Err, refl, sym, ap, ◌∙◌}
use Rattle.image_reports.specs.Below.{AreWithin, Arg, Argument, ArgumentRule, fault_from, Fields, Hidden, IsWithin}
use Rattle.image_reports.specs.Below.{Label, Memory, Param, params_of, Public, RunFault, Secret, Stop, Stopped}
use Rattle.image_reports.specs.certificates.Certified.{Certified, refused, out_of_memory}
use Rattle.image_reports.specs.certificates.Given.{rule_of_given, fault_of_given}
use Rattle.image_reports.specs.vectors.Spelled.{given_by, publics}
use Rattle.image_reports.proofs.vectors_lemmas.Below.{fault_by-same, rule_of-None}
use Rattle.image_reports.proofs.vectors_lemmas.SpellLemmas.{neither, none_some}

given_faultless : (p : Param) (label : Label) (a : Arg) → p.label ≡ label → IsWithin p a
    → rule_of_given p (given_by label a) ≡ None
given_faultless p Public a is within = rule_of-None p a within
given_faultless p Secret a is within = rw is refl

publics_from : (at : ℕ) (params : List Param) (args : List Arg) → AreWithin params args
    → fault_from rule_of_given at params (publics params args) ≡ None
publics_from at [] args h = refl
publics_from at (p ∷ params) [] h = refl
publics_from at (p ∷ params) (a ∷ args) h =
    neither at (rule_of_given p (given_by p.label a)) (fault_from rule_of_given (at + 1) params (publics params args))
    (given_faultless p p.label a refl h.0) (publics_from (at + 1) params args h.1)

length-publics : (params : List Param) (args : List Arg) → AreWithin params args
    → length (publics params args) ≡ length params
length-publics [] args h = refl
length-publics (p ∷ params) [] h = absurd h
length-publics (p ∷ params) (a ∷ args) h = ap suc (length-publics params args h.1)

publics_faultless : (params : List Param) (args : List Arg) → AreWithin params args
    → fault_of_given params (publics params args) ≡ None
publics_faultless params args h =
    fault_by-same rule_of_given params (publics params args) (length-publics params args h)
    ∙ publics_from 0 params args h

-- so a certification of them fails when out of memory alone
pub only_memory : (image : Fields) (args : List Arg) (given : List (Option Arg)) (fault : RunFault)
    → given ≡ publics (params_of image) args → AreWithin (params_of image) args
    → Certified image given Hidden (Err fault) → fault ≡ Memory
only_memory image args given fault is within answer = by fault answer
  where
    by : (why : RunFault) → Certified image given Hidden (Err why) → why ≡ Memory
    by _ (refused {fault} some) =
        absurd (none_some fault (sym (publics_faultless (params_of image) args within)
        ∙ ap (fault_of_given (params_of image)) (sym is) ∙ some))
    by _ (out_of_memory none) = refl

-- and by nothing else
pub not_argument : (rule : ArgumentRule) (index : Option ℕ) → Argument rule index ≢ Memory
not_argument rule index e = cc

pub not_stopped : (stop : Stop) → Stopped stop ≢ Memory
not_stopped stop e = cc
