-- What tests on types mean.
use Rattle.std.proofs.Common.{◌≡◌, true, false, not, ◌&&◌, inl, inr, refl, ap}
use Rattle.std.proofs.lemmas.Bool.{and_parts, cases_Bool}
use Rattle.std.proofs.Math.Bool.{and-false}
use Rattle.language.specs.declared.signature.Kind.{Kind}
use Rattle.language.specs.declared.signature.Kind.TheVariants.{Boolean, Uint8, Uint16, Uint32}
use Rattle.language.specs.declared.signature.Label.{Label}
use Rattle.language.specs.declared.signature.Label.TheVariants.{Public, Secret}
use Rattle.language.specs.declared.typing.ValueType.{ValueType}
use Rattle.language.specs.declared.typing.ValueType.TheVariants.{Word}
use Rattle.language.specs.declared.typing.WordType.{WordType}
use Rattle.language.specs.Grammatical.{IsNumberKind}
use Rattle.language.specs.Types.{word, is_number, is_numeric, is_bool, is_narrow, same_kind, is_secret, widths_differ}
use Rattle.language.specs.Types.{are_alike}
use Rattle.language.specs.WellTyped.{labelled, FlowsTo, public_flows, secret_flows}

-- Kinds.

pub a_number : (kind : Kind) → is_number kind ≡ true → IsNumberKind kind
a_number Boolean h = cc
a_number _ h = tt

pub counts : (kind : Kind) → IsNumberKind kind → is_number kind ≡ true
counts Boolean h = absurd h
counts _ h = refl

pub a_bool : (kind : Kind) → not (is_number kind) ≡ true → kind ≡ Boolean
a_bool Boolean h = refl
a_bool _ h = cc

pub one_kind : (k l : Kind) → same_kind k l ≡ true → l ≡ k
one_kind Boolean Boolean h = refl
one_kind Uint8 Uint8 h = refl
one_kind Uint16 Uint16 h = refl
one_kind Uint32 Uint32 h = refl
one_kind _ _ h = cc

pub same_as_itself : (k : Kind) → same_kind k k ≡ true
same_as_itself Boolean = refl
same_as_itself _ = refl

-- two numbers of one width, or two bools
pub alike_kinds : (k l : Kind) (m n : Label) → widths_differ (word k m) (word l n) ≡ false
    → are_alike (word k m) (word l n) ≡ true → l ≡ k
alike_kinds Boolean Boolean m n even alike = refl
alike_kinds Uint8 Uint8 m n even alike = refl
alike_kinds Uint16 Uint16 m n even alike = refl
alike_kinds Uint32 Uint32 m n even alike = refl
alike_kinds _ _ m n even alike = cc

pub even_alike : (k : Kind) (l m : Label) → (widths_differ (word k l) (word k m) ≡ false)
    × (are_alike (word k l) (word k m) ≡ true)
even_alike Boolean l m = (refl, refl)
even_alike _ l m = (refl, refl)

-- two numbers of one width
pub even_numbers : (k l : Kind) (m n : Label) → widths_differ (word k m) (word l n) ≡ false
    → (is_number k && is_number l) ≡ true → IsNumberKind k × (l ≡ k)
even_numbers Uint8 Uint8 m n even numbers = (tt, refl)
even_numbers Uint16 Uint16 m n even numbers = (tt, refl)
even_numbers Uint32 Uint32 m n even numbers = (tt, refl)
even_numbers _ _ m n even numbers = cc

-- a `uint32`
pub a_full_word : (kind : Kind) (label : Label) → is_narrow (word kind label) ≡ false → is_number kind ≡ true
    → kind ≡ Uint32
a_full_word Uint32 label h e = refl
a_full_word _ label h e = cc

-- Labels.

pub a_public : (label : Label) → is_secret label ≡ false → label ≡ Public
a_public Public h = refl
a_public Secret h = cc

pub flows : (label wanted : Label) → (not (is_secret wanted) && is_secret label) ≡ false → FlowsTo label wanted
flows Public wanted h = public_flows
flows Secret Secret h = secret_flows
flows Secret Public h = cc

pub flowing : {label wanted : Label} → FlowsTo label wanted → (not (is_secret wanted) && is_secret label) ≡ false
flowing (public_flows {label = wanted}) = and-false (not (is_secret wanted))
flowing secret_flows = refl

-- Words.

pub numeric_word : (type : ValueType) → is_numeric type ≡ true
    → (w : WordType) × (type ≡ Word w) × IsNumberKind w.kind
numeric_word (Word w) h = (w, refl, a_number w.kind h)
numeric_word _ h = cc

pub bool_word : (type : ValueType) → is_bool type ≡ true → (label : Label) × (type ≡ word Boolean label)
bool_word (Word w) h = (w.label, ap (λ kind. word kind w.label) (a_bool w.kind h))
bool_word _ h = cc

-- two words
abbrev pub AreWords : ValueType → ValueType → Type 0
AreWords s t = (one other : WordType) × (s ≡ Word one) × (t ≡ Word other)

pub numeric_words : (s t : ValueType) → (is_numeric s && is_numeric t) ≡ true → AreWords s t
numeric_words s t h =
    let each = and_parts _ _ h in
    let one = numeric_word s each.0 in
    let other = numeric_word t each.1 in
    (one.0, other.0, one.1, other.1)

pub bool_words : (s t : ValueType) → (is_bool s && is_bool t) ≡ true → AreWords s t
bool_words s t h =
    let each = and_parts _ _ h in
    let one = bool_word s each.0 in
    let other = bool_word t each.1 in
    (labelled Boolean one.0, labelled Boolean other.0, one.1, other.1)

pub alike_words : (s t : ValueType) → are_alike s t ≡ true → AreWords s t
alike_words s t h = elim (cases_Bool (is_numeric s && is_numeric t)) [
  | inl e ↦ numeric_words s t e
  | inr e ↦ bool_words s t (rw e at h)
]
