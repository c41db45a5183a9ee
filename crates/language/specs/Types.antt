-- Types, labels and scopes: what the rules of the language speak of.
use Rattle.std.specs.Prelude.{ℕ, Bool, true, false, not, ◌&&◌, ◌||◌, ◌==◌, List, [], ◌∷◌, ◌++◌, Option, None, Some}
use Rattle.std.specs.Prelude.{is_some, map, if◌then◌else◌}
use Rattle.std.specs.Option.{unwrap_or}
use Rattle.std.specs.Str.{bytes_eq}
use Rattle.std.specs.Map.{lookup}
use Rattle.word.specs.declared.place.Place.{Place}
use Rattle.word.specs.declared.profile.Profile.{Profile}
use Rattle.word.specs.Places.{origin}
use Rattle.language.specs.declared.rule.Rule.{Rule}
use Rattle.language.specs.declared.signature.Kind.{Kind}
use Rattle.language.specs.declared.signature.Kind.TheVariants.{Boolean, Uint8, Uint16, Uint32}
use Rattle.language.specs.declared.signature.Label.{Label}
use Rattle.language.specs.declared.signature.Label.TheVariants.{Public, Secret}
use Rattle.language.specs.declared.typing.Callee.{Callee}
use Rattle.language.specs.declared.typing.Declared.{Declared}
use Rattle.language.specs.declared.typing.Declared.TheVariants.{Procedure, Variable}
use Rattle.language.specs.declared.typing.ValueType.{ValueType}
use Rattle.language.specs.declared.typing.ValueType.TheVariants.{Word, Array, Nothing}
use Rattle.language.specs.declared.typing.VariableType.{VariableType}
use Rattle.language.specs.declared.typing.Violation.{Violation}
use Rattle.language.specs.declared.why.SecretControl.{SecretControl}
use Rattle.language.specs.declared.why.Typed.{Typed}
use Rattle.language.specs.declared.why.Why.{Why}
use Rattle.language.specs.declared.why.Why.TheVariants.{Plain}

-- Scopes.

-- the observer from whom secrets are kept, the names that may be used at a point, the earliest first, and where each of
-- them is declared
pub record Scope : Type 0 where
  pub profile : Profile
  pub names : List (List ℕ × Declared)
  pub places : List (List ℕ × Place)

-- where nothing is declared
abbrev pub empty : Profile → Scope
empty profile = record { profile = profile; names = []; places = [] }

-- what a name stands for
abbrev pub found : Scope → List ℕ → Option Declared
found scope text = lookup (bytes_eq text) scope.names

-- where a name is declared; one that is not is said to be where a source begins
abbrev pub declared_at : Scope → List ℕ → Place
declared_at scope text = unwrap_or (lookup (bytes_eq text) scope.places) origin

-- the names after a declaration: of two declarations of a name the first keeps it
abbrev pub with_name : {V : Type 0} → List (List ℕ × V) → List ℕ → V → List (List ℕ × V)
with_name names text what = if is_some (lookup (bytes_eq text) names) then names else names ++ (text, what) ∷ []

-- the scope after a declaration at a place
abbrev pub declared : Scope → Place → List ℕ → Declared → Scope
declared scope place text what = record {
  profile = scope.profile;
  names = with_name scope.names text what;
  places = with_name scope.places text place;
}

-- the variable that a name stands for
abbrev pub variable : Option Declared → Option VariableType
variable (Some (Variable v)) = Some v
variable (Some (Procedure callee)) = None
variable None = None

-- the procedure that a name stands for
abbrev pub callee : Option Declared → Option Callee
callee (Some (Procedure c)) = Some c
callee (Some (Variable v)) = None
callee None = None

-- Kinds and labels.

-- how many bits a number has; a bool has one
abbrev pub bits_of : Kind → ℕ
bits_of Boolean = 1
bits_of Uint8 = 8
bits_of Uint16 = 16
bits_of Uint32 = 32

abbrev pub is_number : Kind → Bool
is_number Boolean = false
is_number Uint8 = true
is_number Uint16 = true
is_number Uint32 = true

abbrev pub same_kind : Kind → Kind → Bool
same_kind a b = bits_of a == bits_of b

abbrev pub is_secret : Label → Bool
is_secret Public = false
is_secret Secret = true

abbrev pub same_label : Label → Label → Bool
same_label Public label = not (is_secret label)
same_label Secret label = is_secret label

-- the label of what two operands make: secret where one of them is
abbrev pub joined : Label → Label → Label
joined Public label = label
joined Secret label = Secret

-- of control: secret under an `if` with a secret condition
abbrev pub label_under : Option SecretControl → Label
label_under None = Public
label_under (Some control) = Secret

-- Types.

abbrev pub word : Kind → Label → ValueType
word kind label = Word (record { kind = kind; label = label })

-- a number
abbrev pub is_numeric : ValueType → Bool
is_numeric (Word w) = is_number w.kind
is_numeric (Array a) = false
is_numeric Nothing = false

-- a bool
abbrev pub is_bool : ValueType → Bool
is_bool (Word w) = not (is_number w.kind)
is_bool (Array a) = false
is_bool Nothing = false

-- an array
abbrev pub is_array : ValueType → Bool
is_array (Word w) = false
is_array (Array a) = true
is_array Nothing = false

-- a number other than `uint32`
abbrev pub is_narrow : ValueType → Bool
is_narrow (Word w) = is_number w.kind && not (same_kind w.kind Uint32)
is_narrow (Array a) = false
is_narrow Nothing = false

-- the kind of a word; what is none is no operand of a well-typed node
abbrev pub kind_of : ValueType → Kind
kind_of (Word w) = w.kind
kind_of (Array a) = a.element.kind
kind_of Nothing = Boolean

-- an array has the label of its elements
abbrev pub label_of : ValueType → Label
label_of (Word w) = w.label
label_of (Array a) = a.element.label
label_of Nothing = Public

-- something secret
abbrev pub is_hidden : ValueType → Bool
is_hidden type = is_secret (label_of type)

-- two numbers of unequal width
abbrev pub widths_differ : ValueType → ValueType → Bool
widths_differ a b = is_numeric a && is_numeric b && not (same_kind (kind_of a) (kind_of b))

-- two numbers, or two bools
abbrev pub are_alike : ValueType → ValueType → Bool
are_alike a b = (is_numeric a && is_numeric b) || (is_bool a && is_bool b)

-- Rules at places.

-- the rule, where this holds
abbrev pub when : Bool → Rule → List Rule
when holds rule = if holds then rule ∷ [] else []

-- rules violated at a place, each for its reason
abbrev pub because_of : (Rule → Why) → Place → List Rule → List Violation
because_of why place rules = map (λ rule. record { place = place; rule = rule; why = why rule }) rules

-- for this reason
abbrev pub because : Why → Place → List Rule → List Violation
because why place rules = map (λ rule. record { place = place; rule = rule; why = why }) rules

-- where rule and place say it all
abbrev pub at : Place → List Rule → List Violation
at place rules = because Plain place rules

-- none is violated
abbrev pub are_met : {A : Type 0} → List A → Bool
are_met [] = true
are_met (one ∷ more) = false

-- the type, where none is violated
abbrev pub unless : {A : Type 0} → List A → ValueType → Option ValueType
unless violated type = if are_met violated then Some type else None

-- what a node gives by what is known of its parts, where all parts are well typed
abbrev pub of_one : {A B : Type 0} → B → (A → B) → Option A → B
of_one none f (Some a) = f a
of_one none f None = none

abbrev pub of_two : {A B : Type 0} → B → (A → A → B) → Option A → Option A → B
of_two none f (Some a) (Some b) = f a b
of_two none f (Some a) None = none
of_two none f None b = none

abbrev pub of_three : {A B : Type 0} → B → (A → A → A → B) → Option A → Option A → Option A → B
of_three none f (Some a) (Some b) (Some c) = f a b c
of_three none f (Some a) (Some b) None = none
of_three none f (Some a) None c = none
of_three none f None b c = none

-- a value of this type, with the first secret name in it and the number that it is
abbrev pub typed_as : Option Place → Option ℕ → ValueType → Typed
typed_as secret literal type = record { value = type; secret = secret; literal = literal }

-- what is known of all parts, where each is well typed
abbrev pub with_typed : Option Typed → Option (List Typed) → Option (List Typed)
with_typed (Some t) (Some ts) = Some (t ∷ ts)
with_typed (Some t) None = None
with_typed None ts = None

-- the rules that are asked of a node where its parts are well typed
abbrev pub asked_of_one : (Typed → Rule → Why) → Place → (ValueType → List Rule) → Option Typed → List Violation
asked_of_one why place rules (Some a) = because_of (why a) place (rules a.value)
asked_of_one why place rules None = []

abbrev pub asked_of_two : (Typed → Typed → Rule → Why) → Place → (ValueType → ValueType → List Rule) → Option Typed
    → Option Typed → List Violation
asked_of_two why place rules (Some a) (Some b) = because_of (why a b) place (rules a.value b.value)
asked_of_two why place rules (Some a) None = []
asked_of_two why place rules None b = []

abbrev pub asked_of_three : (Typed → Typed → Typed → Rule → Why) → Place
    → (ValueType → ValueType → ValueType → List Rule) → Option Typed → Option Typed → Option Typed → List Violation
asked_of_three why place rules (Some a) (Some b) (Some c) =
    because_of (why a b c) place (rules a.value b.value c.value)
asked_of_three why place rules (Some a) (Some b) None = []
asked_of_three why place rules (Some a) None c = []
asked_of_three why place rules None b c = []
