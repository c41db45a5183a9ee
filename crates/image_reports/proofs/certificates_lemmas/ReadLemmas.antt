-- What texts give, one after another, and what an answer says of their first fault.
use Rattle.std.proofs.Common.{◌≡◌, ◌↔◌, ℕ, ◌+◌, ◌<◌, List, [], ◌∷◌, ◌++◌, length, get_or, take, Option, None, Some}
use Rattle.std.proofs.Common.{Result, Ok, Err, refl, sym, ap, subst, ◌∙◌, length-append, arith}
use Rattle.std.proofs.lemmas.List.{take_more}
use Rattle.image_reports.proofs.certificates_lemmas.Below.{fault_at-None, fault_by-None, fault_by-same}
use Rattle.image_reports.specs.Below.{Arg, Argument, ArgumentFault, ArgumentRule, fault_at, fault_from, Memory, Param}
use Rattle.image_reports.specs.Below.{RunFault}
use Rattle.image_reports.specs.certificates.Given.{rule_of_given, fault_of_given}

-- One more without fault.

neither : (at : ℕ) (broken : Option ArgumentRule) (later : Option ArgumentFault) → broken ≡ None → later ≡ None
    → fault_at at broken later ≡ None
neither at None later b l = l
neither at (Some rule) later b l = cc

from_more : (at : ℕ) (params : List Param) (given : List (Option Arg)) (p : Param) (one : Option Arg)
    → length given ≡ length params → fault_from rule_of_given at params given ≡ None → rule_of_given p one ≡ None
    → fault_from rule_of_given at (params ++ p ∷ []) (given ++ one ∷ []) ≡ None
from_more at [] [] p one same none right = neither at (rule_of_given p one) None right refl
from_more at [] (g ∷ given) p one same none right = absurd (omega arith)
from_more at (q ∷ params) [] p one same none right = absurd (omega arith)
from_more at (q ∷ params) (g ∷ given) p one same none right =
    let both = fault_at-None at (rule_of_given q g) (fault_from rule_of_given (at + 1) params given) none in
    neither at (rule_of_given q g) (fault_from rule_of_given (at + 1) (params ++ p ∷ []) (given ++ one ∷ [])) both.0
    (from_more (at + 1) params given p one (omega arith) both.1 right)

faultless_push : (params : List Param) (given : List (Option Arg)) (p : Param) (one : Option Arg)
    → fault_of_given params given ≡ None → rule_of_given p one ≡ None
    → fault_of_given (params ++ p ∷ []) (given ++ one ∷ []) ≡ None
faultless_push params given p one none right =
    let both = fault_by-None rule_of_given params given none in
    let counts : length (given ++ one ∷ []) ≡ length (params ++ p ∷ []) = length-append given (one ∷ [])
    ∙ (ap (λ n. n + 1) both.0 ∙ sym (length-append params (p ∷ []))) in
    fault_by-same rule_of_given (params ++ p ∷ []) (given ++ one ∷ []) counts
    ∙ from_more 0 params given p one both.0 both.1 right

pub faultless-more : (params : List Param) (given : List (Option Arg)) (i : ℕ) (p : Param) (one : Option Arg)
    → i < length params → fault_of_given (take i params) given ≡ None → rule_of_given (get_or params i p) one ≡ None
    → fault_of_given (take (i + 1) params) (given ++ one ∷ []) ≡ None
faultless-more params given i p one below none right =
    subst (λ (ps : List Param). fault_of_given ps (given ++ one ∷ []) ≡ None) (sym (take_more params i p below))
    (faultless_push (take i params) given (get_or params i p) one none right)

-- What an answer says of the first fault.

one_fault : (f fault : ArgumentFault) → Argument f.rule f.index ≡ Argument fault.rule fault.index → f ≡ fault
one_fault f fault h =
    let rule : f.rule ≡ fault.rule = cc in
    let index : f.index ≡ fault.index = cc in
    ap (λ (r : ArgumentRule). record { rule = r; index = f.index }) rule
    ∙ ap (λ (i : Option ℕ). record { rule = fault.rule; index = i }) index

pub fault_iff-ok : {T : Type 0} (answer : Result T RunFault) (x : T) (found : Option ArgumentFault)
    (fault : ArgumentFault) → answer ≡ Ok x → found ≡ None
    → (answer ≡ Err (Argument fault.rule fault.index)) ↔ (found ≡ Some fault)
fault_iff-ok answer x found fault ok none = (λ e. cc, λ e. cc)

pub fault_iff-memory : {T : Type 0} (answer : Result T RunFault) (found : Option ArgumentFault)
    (fault : ArgumentFault) → answer ≡ Err Memory → found ≡ None
    → (answer ≡ Err (Argument fault.rule fault.index)) ↔ (found ≡ Some fault)
fault_iff-memory answer found fault memory none = (λ e. cc, λ e. cc)

pub fault_iff-fault : {T : Type 0} (answer : Result T RunFault) (first : ArgumentFault) (found : Option ArgumentFault)
    (fault : ArgumentFault) → answer ≡ Err (Argument first.rule first.index) → found ≡ Some first
    → (answer ≡ Err (Argument fault.rule fault.index)) ↔ (found ≡ Some fault)
fault_iff-fault answer first found fault is some = (
  (λ e. let same : Argument first.rule first.index ≡ Argument fault.rule fault.index = cc in
      some ∙ ap (λ (f : ArgumentFault). Some f) (one_fault first fault same)),
  (λ e. let same : first ≡ fault = cc in is ∙ ap (λ (f : ArgumentFault). Err (Argument f.rule f.index)) same),
)
