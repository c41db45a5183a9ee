-- A scope in which nothing public may be assigned to.
use Rattle.std.proofs.Common.{◌≡◌, ℕ, Bool, true, false, List, Some, inl, inr, refl, sym, ap, ◌∙◌, true≢false}
use Rattle.std.proofs.lemmas.Bool.{or_parts}
use Rattle.inline.specs.Below.{AreNew, counter_as, declared, declares, declares_array, Form, is_mutable}
use Rattle.inline.specs.Below.{is_public_mutable, IsWellTyped, Label, label_of, no_parameter, one_is_new}
use Rattle.inline.specs.Below.{parameter_value, parameters_assign, ParameterTree, Place, ProcedureTree, Public}
use Rattle.inline.specs.Below.{right_assigns, Scope, scope_after, Secret, SingleWord, statement_assigns, StatementTree}
use Rattle.inline.specs.Below.{Variable, VariableType, with_parameters}
use Rattle.language.specs.Types.{found}
use Rattle.inline.proofs.Linked.{same_variable}
use Rattle.inline.proofs.Below.{found-split}
use Rattle.inline.proofs.Parameters.{NoVariables}

-- each name that may be assigned to is secret
abbrev pub Hides : Scope → Type 0
Hides scope = (text : List ℕ) (v : VariableType) → found scope text ≡ Some (Variable v) → v.mutable ≡ true
    → label_of v.value ≡ Secret

pub hides_declared : (scope : Scope) (place : Place) (name : List ℕ) (v : VariableType)
    → (v.mutable ≡ true → label_of v.value ≡ Secret) → Hides scope → Hides (declared scope place name (Variable v))
hides_declared scope place name v own hides text w is =
    elim (found-split scope.names name (Variable v) text (Variable w) is) [
      | inl old ↦ hides text w old
      | inr new ↦ rw (← same_variable v w (ap Some new.1)) own
    ]

-- what is no public name that may be assigned to
secret_one : (label : Label) (mutable : Bool) → is_public_mutable label mutable ≡ false → mutable ≡ true
    → label ≡ Secret
secret_one Public true none e = absurd (true≢false none)
secret_one Public false none e = absurd (true≢false (sym e))
secret_one Secret mutable none e = refl

module _ (at : Scope) where
  pub hides_after : {earlier : List ProcedureTree} {scope : Scope} {control : Label} {s : StatementTree}
      → IsWellTyped earlier scope control s → Hides scope → statement_assigns at s ≡ false
      → Hides (scope_after scope s)
  hides_after (declares {scope = scope} {place = place} {label = label} {mutable = mutable} {text = text} {right = r} new has suit
      flow) hides none =
      hides_declared scope place text _
      (secret_one label mutable (or_parts (is_public_mutable label mutable) (right_assigns at r) none).0) hides
  hides_after (declares_array {scope = scope} {place = place} {label = label} {mutable = mutable} {text = text} new suit
      count flow) hides none = hides_declared scope place text _ (secret_one label mutable none) hides
  hides_after other hides none = hides

pub hides_counter : (scope : Scope) (place : Place) (text : List ℕ) → Hides scope
    → Hides (declared scope place text counter_as)
hides_counter scope place text hides = hides_declared scope place text _ (λ e. absurd (true≢false (sym e))) hides

-- a scope of procedures
pub hides_none : (scope : Scope) → NoVariables scope → Hides scope
hides_none scope none text v is = absurd (none text v is)

parameter_label : (p : ParameterTree) (form : Form) → label_of (parameter_value p form) ≡ p.label
parameter_label p SingleWord = refl
parameter_label p form = refl

pub hides_parameters : {scope : Scope} {ps : List ParameterTree} → AreNew scope ps → Hides scope
    → parameters_assign ps ≡ false → Hides (with_parameters scope ps)
hides_parameters no_parameter hides none = hides
hides_parameters (one_is_new {scope = scope} {p = p} {ps = ps} here there) hides none =
    let split = or_parts (is_public_mutable p.label (is_mutable p.form)) (parameters_assign ps) none in
    hides_parameters there (hides_declared scope p.place p.name _
    (λ e. parameter_label p p.form ∙ secret_one p.label (is_mutable p.form) split.0 e) hides) split.1
