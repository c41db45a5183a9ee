-- Faults of arguments, as faults of reading and of a run.
use Rattle.std.proofs.Common.{◌≡◌, ◌↔◌, Result, Err, ap, ◌∙◌}
use Rattle.hepurita.specs.Below.{ArgumentFault}
use Rattle.language.specs.declared.arguments.texts.ReadError.{ReadError}
use Rattle.language.specs.declared.arguments.texts.ReadError.TheVariants as errors
use Rattle.hepurita.specs.declared.fault.RunFault.{RunFault}
use Rattle.hepurita.specs.declared.fault.RunFault.TheVariants.{Argument}

one_fault : (f fault : ArgumentFault) → Argument f.rule f.index ≡ Argument fault.rule fault.index → f ≡ fault
one_fault f fault h =
    let rule : f.rule ≡ fault.rule = cc in
    let index : f.index ≡ fault.index = cc in
    λ i. record { rule = rule i; index = index i }

-- the fault of a run is an argument's where that of reading is
pub same_fault : {A B : Type 0} (f fault : ArgumentFault) (X : Type 0) (was : Result A ReadError)
    (is : Result B RunFault) → was ≡ Err (errors.Argument f) → is ≡ Err (Argument f.rule f.index)
    → ((was ≡ Err (errors.Argument fault)) ↔ X) → ((is ≡ Err (Argument fault.rule fault.index)) ↔ X)
same_fault f fault X was is from to both = (
  (λ h. let same : Argument f.rule f.index ≡ Argument fault.rule fault.index = cc in
      both.0 (from ∙ ap (λ (x : ArgumentFault). Err (errors.Argument x)) (one_fault f fault same))),
  (λ x. let told = both.1 x in let same : f ≡ fault = cc in
      to ∙ ap (λ (y : ArgumentFault). Err (Argument y.rule y.index)) same),
)

-- there is none where memory was refused
pub no_fault : {A B : Type 0} (fault : ArgumentFault) (X : Type 0) (was : Result A ReadError) (is : Result B RunFault)
    → was ≡ Err errors.Memory → (is ≡ Err (Argument fault.rule fault.index) → ⊥)
    → ((was ≡ Err (errors.Argument fault)) ↔ X) → ((is ≡ Err (Argument fault.rule fault.index)) ↔ X)
no_fault fault X was is from never both = ((λ h. absurd (never h)), (λ x. let told = both.1 x in cc))
