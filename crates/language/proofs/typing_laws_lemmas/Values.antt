-- Values put where a type is wanted.
use Rattle.std.proofs.Common.{◌≡◌, ℕ, Bool, true, false, not, ◌&&◌, [], Option, Some, refl, ap, sym, ◌∙◌, subst}
use Rattle.word.specs.declared.place.Place.{Place}
use Rattle.language.specs.declared.signature.Kind.{Kind}
use Rattle.language.specs.declared.signature.Label.{Label}
use Rattle.language.specs.declared.signature.Label.TheVariants.{Public, Secret}
use Rattle.language.specs.declared.typing.ValueType.{ValueType}
use Rattle.language.specs.declared.typing.ValueType.TheVariants.{Word}
use Rattle.language.specs.declared.typing.WordType.{WordType}
use Rattle.language.specs.declared.why.SecretControl.{SecretControl}
use Rattle.language.specs.declared.why.Typed.{Typed}
use Rattle.language.specs.Reasons.{control_under}
use Rattle.language.specs.Types.{is_secret, is_hidden, label_under, joined, word, widths_differ, are_alike, typed_as}
use Rattle.language.specs.Typing.{value_rules, control_rules, control_violations, change_violations}
use Rattle.language.specs.Typing.{declaration_control_violations}
use Rattle.language.specs.WellTyped.{FlowsTo, Suits, suits}
use Rattle.language.proofs.typing_laws_lemmas.TypeTests.{alike_kinds, even_alike, alike_words, flows, flowing}
use Rattle.language.proofs.typing_laws_lemmas.NoRules.{none_of_two, none_of_three, no_rules, not_when, is_met}

-- a value that violates no rule is a word that suits
pub is_suited : (wanted : WordType) (given : ValueType) → value_rules wanted given ≡ []
    → (w : WordType) × (given ≡ Word w) × Suits w wanted
is_suited wanted given h =
    let none = none_of_three h in
    let even : widths_differ (Word wanted) given ≡ false = not_when _ none.0 in
    let alike : are_alike (Word wanted) given ≡ true = is_met _ none.1 in
    let words = alike_words (Word wanted) given alike in
    let w = words.1 in
    let same = alike_kinds wanted.kind w.kind wanted.label w.label (rw words.3 at even) (rw words.3 at alike) in
    let safe : (not (is_secret wanted.label) && is_hidden given) ≡ false = not_when _ none.2 in
    let flow = flows w.label wanted.label (rw words.3 at safe) in (
      w,
      words.3,
      subst (λ k. Suits (record { kind = k; label = w.label }) wanted) (sym same) (suits flow),
    )

pub suited : {given wanted : WordType} → Suits given wanted → value_rules wanted (Word given) ≡ []
suited (suits {kind = k} {label = l} {wanted = m} flow) =
    let kinds = even_alike k m l in rw (kinds.0, kinds.1, flowing flow)

-- Under a control label.

pub is_kept : (control label : Label) → control_rules control label ≡ [] → FlowsTo control label
is_kept control label h = flows control label (not_when _ h)

pub kept : {control label : Label} → FlowsTo control label → control_rules control label ≡ []
kept flow = rw (flowing flow)

pub control_kept : (control : Option SecretControl) (place : Place) (label : Label)
    → control_violations control place label ≡ [] → FlowsTo (label_under control) label
control_kept control place label h = is_kept (label_under control) label (no_rules _ place h)

pub is_changed : (control : Option SecretControl) (place known_at : Place) (mutable : Bool) (label : Label)
    → change_violations control place known_at mutable label ≡ []
    → (mutable ≡ true) × FlowsTo (label_under control) label
is_changed control place known_at mutable label h =
    let none = none_of_two h in (is_met _ (no_rules _ place none.0), control_kept control place label none.1)

pub is_declared : (control : Option SecretControl) (place : Place) (label : Label) (mutable : Bool)
    → declaration_control_violations control place label mutable ≡ []
    → mutable ≡ true → FlowsTo (label_under control) label
is_declared control place label true h e = control_kept control place label h
is_declared control place label false h e = cc

pub declared_under : (control : Option SecretControl) (place : Place) (label : Label) (mutable : Bool)
    → (mutable ≡ true → FlowsTo (label_under control) label)
    → declaration_control_violations control place label mutable ≡ []
declared_under control place label true flow = rw (kept (flow refl))
declared_under control place label false flow = refl

-- in the arms of a conditional the control label is that of the condition, joined with the one around them
pub under_joined : (place : Place) (control : Option SecretControl) {given : Option Typed} {secret : Option Place}
    {literal : Option ℕ} {kind : Kind} {label : Label} → given ≡ Some (typed_as secret literal (word kind label))
    → label_under (control_under place control given) ≡ joined label (label_under control)
under_joined place control {secret = secret} {literal = literal} {kind = kind} {label = label} is =
    ap (λ o. label_under (control_under place control o)) is ∙ by label
  where
    by : (l : Label) → label_under (control_under place control (Some (typed_as secret literal (word kind l))))
        ≡ joined l (label_under control)
    by Public = refl
    by Secret = refl
