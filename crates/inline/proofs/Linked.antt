-- Names, their types and their numbers, as they go together.
use Rattle.std.proofs.Common.{◌≡◌, ℕ, ◌+◌, ◌<◌, ◌≤◌, Bool, true, if◌then◌else◌, List, Option, Some, None, ◌⊎◌, inl}
use Rattle.std.proofs.Common.{inr, refl, sym, ap, ◌∙◌, subst, arith, eq-eqb, ne_eqb}
use Rattle.std.proofs.lemmas.Bool.{cases_Bool}
use Rattle.std.proofs.lemmas.Option.{none-some}
use Rattle.std.specs.Str.{bytes_eq}
use lib.Pointwise.{bytes_decides}
use Rattle.inline.specs.declared.flat.FlatVariable.{FlatVariable}
use Rattle.inline.specs.declared.numbering.Numbered.{Numbered}
use Rattle.inline.specs.FlatTyping.{Types, with_type}
use Rattle.inline.specs.Numbering.{Numbers, numbered, number_of, naming}
use Rattle.inline.specs.Below.{Array, ArrayType, declared, found, Place, Scope, ValueType, Variable, VariableType, Word}
use Rattle.inline.specs.Below.{WordType}
use Rattle.inline.proofs.Below.{found-kept, found-new, found-other, found-split}

-- what a name stands for in the scope, where it is a variable that is declared so
abbrev pub value_as : WordType → Option ℕ → ValueType
value_as word None = Word word
value_as word (Some size) = Array (record { element = word; length = size })

abbrev pub variable_as : FlatVariable → VariableType
variable_as d = record { value = value_as d.word d.elements; mutable = d.mutable }

-- which decides how it is declared
one_size : (word other : WordType) (size length : Option ℕ) → value_as word size ≡ value_as other length
    → (word ≡ other) × (size ≡ length)
one_size word other None None is = (cc, refl)
one_size word other None (Some n) is = absurd cc
one_size word other (Some m) None is = absurd cc
one_size word other (Some m) (Some n) is =
    let same : record { element = word; length = m } ≡ record { element = other; length = n } = cc in (
      ap (λ (a : ArrayType). a.element) same,
      ap (λ (a : ArrayType). Some a.length) same,
    )

one_declaration : (d e : FlatVariable) → variable_as d ≡ variable_as e → d ≡ e
one_declaration d e is =
    let same = one_size d.word e.word d.elements e.elements (ap (λ (v : VariableType). v.value) is) in
    let free = ap (λ (v : VariableType). v.mutable) is in
    λ i. record { word = same.0 i; mutable = free i; elements = same.1 i }

-- what stands for a variable of this number, declared so
abbrev pub entry : ℕ → FlatVariable → Numbered
entry n d = record { number = n; declaration = d }

-- What a number is declared as serves where this is wanted: it is declared alike, and may be assigned to where that
-- is. An array that may be assigned to may stand for a parameter that may not.
pub record Serves (there : Option FlatVariable) (d : FlatVariable) : Type 0 where
  pub free : Bool
  pub is : there ≡ Some (record { word = d.word; mutable = free; elements = d.elements })
  pub enough : d.mutable ≡ true → free ≡ true

pub serves_itself : {there : Option FlatVariable} {d : FlatVariable} → there ≡ Some d → Serves there d
serves_itself {d = d} is = record { free = d.mutable; is = is; enough = λ e. e }

-- a variable that is declared so has a number, which serves
pub record IsKnownName (names : Numbers) (types : Types) (text : List ℕ) (d : FlatVariable) : Type 0 where
  pub found : found names text ≡ Some (entry (number_of names text) d)
  pub typed : Serves (types.at (number_of names text)) d
  pub declared : (numbered names text).declaration ≡ d

known_at : {names : Numbers} {types : Types} (text : List ℕ) {number : ℕ} {d : FlatVariable}
    → found names text ≡ Some (entry number d) → Serves (types.at number) d → IsKnownName names types text d
known_at {names = names} {types = types} text {number = number} {d = d} is serves =
    let here : numbered names text ≡ entry number d = rw is in
    record {
      found = is ∙ ap (λ (x : Numbered). Some (entry x.number d)) (sym here);
      typed = subst (λ (x : Numbered). Serves (types.at x.number) d) (sym here) serves;
      declared = rw is;
    }

-- the next number is n
pub record Linked (scope : Scope) (names : Numbers) (types : Types) (n : ℕ) : Type 0 where
  -- the observer is the same
  pub observed : types.profile ≡ scope.profile
  -- a variable's number has its type
  pub known : (text : List ℕ) (d : FlatVariable) → found scope.names text ≡ Some (Variable (variable_as d))
      → IsKnownName names types text d
  -- only what is in scope has a number
  pub none : (text : List ℕ) → found scope.names text ≡ None → found names text ≡ None
  pub below : (text : List ℕ) (x : Numbered) → found names text ≡ Some x → x.number < n
  -- a number is that of two names only where neither may be assigned to
  pub apart : (a b : List ℕ) (x y : Numbered) → found names a ≡ Some x → found names b ≡ Some y → x.number ≡ y.number
      → x.declaration.mutable ≡ true → a ≡ b
  pub fresh : (x : ℕ) → n ≤ x → types.at x ≡ None

-- further numbers are taken, by what no name stands for
pub widened : {scope : Scope} {names : Numbers} {types others : Types} {n m : ℕ} → n ≤ m
    → others.profile ≡ types.profile → ((x : ℕ) → x < n → others.at x ≡ types.at x)
    → ((x : ℕ) → m ≤ x → others.at x ≡ None) → Linked scope names types n
    → Linked scope names others m
widened more one same new linked = record {
  observed = one ∙ linked.observed;
  known = λ text d is.
      let k = linked.known text d is in
      record { found = k.found; typed = rw (same _ (linked.below text _ k.found)) k.typed; declared = k.declared };
  none = linked.none;
  below = λ text x is. omega (arith, linked.below text x is);
  apart = linked.apart;
  fresh = new;
}

pub later : {scope : Scope} {names : Numbers} {types : Types} {n m : ℕ} → n ≤ m → Linked scope names types n
    → Linked scope names types m
later more linked = widened more refl (λ x low. refl) (λ x high. linked.fresh x (omega arith)) linked

pub with_type-same : (types : Types) (n : ℕ) (d : FlatVariable) → (with_type types n d).at n ≡ Some d
with_type-same types n d = ap (λ b. if b then Some d else types.at n) (eq-eqb n n refl)

pub with_type-other : (types : Types) (n x : ℕ) (d : FlatVariable) → (x ≡ n → ⊥)
    → (with_type types n d).at x ≡ types.at x
with_type-other types n x d other = ap (λ b. if b then Some d else types.at x) (ne_eqb x n other)

pub same_variable : (v w : VariableType) → Some (Variable v) ≡ Some (Variable w) → v ≡ w
same_variable v w e = cc

-- A name for a number that is declared: for a new one, or for a caller's array.

module _ {scope : Scope} {names : Numbers} {types : Types} {n : ℕ} (linked : Linked scope names types n)
    (place : Place) (text : List ℕ) (new : found scope.names text ≡ None) (number : ℕ) (own : FlatVariable)
    (low : number < n) (typed : Serves (types.at number) own)
    (clear : (other : List ℕ) (x : Numbered) → found names other ≡ Some x → x.number ≡ number
    → (x.declaration.mutable ≡ true → ⊥) × (own.mutable ≡ true → ⊥)) where
  abbrev after : Numbers
  after = naming names text number own

  -- what stands for a name did so before, or this is the name
  abbrev IsOldOrNew : List ℕ → Numbered → Type 0
  IsOldOrNew other x = (found names other ≡ Some x) ⊎ ((bytes_eq other text ≡ true) × (entry number own ≡ x))

  split : (other : List ℕ) (x : Numbered) → found after other ≡ Some x → IsOldOrNew other x
  split other x is = found-split names text (entry number own) other x is

  known_by : (other : List ℕ) (d : FlatVariable)
      → found (declared scope place text (Variable (variable_as own))).names other ≡ Some (Variable (variable_as d))
      → IsKnownName after types other d
  known_by other d is = elim (found-split scope.names text _ other (Variable (variable_as d)) is) [
    | inl old ↦ (
        let k = linked.known other d old in
        known_at other (found-kept names text (entry number own) other _ k.found) k.typed)
    | inr same ↦ subst (IsKnownName after types other)
        (one_declaration own d (same_variable (variable_as own) (variable_as d) (ap Some same.1)))
        (known_at other (found-new names text (entry number own) other same.0 (linked.none text new)) typed)
  ]

  none_by : (other : List ℕ) → found (declared scope place text (Variable (variable_as own))).names other ≡ None
      → found after other ≡ None
  none_by other is = elim (cases_Bool (bytes_eq other text)) [
    | inl same ↦ absurd (none-some (Variable (variable_as own))
        (sym is ∙ found-new scope.names text (Variable (variable_as own)) other same new))
    | inr apart ↦ found-other names text (entry number own) other apart
        ∙ linked.none other (sym (found-other scope.names text (Variable (variable_as own)) other apart) ∙ is)
  ]

  below_by : (other : List ℕ) (x : Numbered) → IsOldOrNew other x → x.number < n
  below_by other x (inl old) = linked.below other x old
  below_by other x (inr same) = subst (λ (z : Numbered). z.number < n) same.1 low

  apart_by : (a b : List ℕ) (x y : Numbered) → IsOldOrNew a x → IsOldOrNew b y → x.number ≡ y.number
      → x.declaration.mutable ≡ true → a ≡ b
  apart_by a b x y (inl old) (inl older) equal free = linked.apart a b x y old older equal free
  apart_by a b x y (inl old) (inr same) equal free =
      absurd ((clear a x old (equal ∙ ap (λ (z : Numbered). z.number) (sym same.1))).0 free)
  apart_by a b x y (inr same) (inl old) equal free =
      absurd ((clear b y old (sym equal ∙ ap (λ (z : Numbered). z.number) (sym same.1))).1
      (ap (λ (z : Numbered). z.declaration.mutable) same.1 ∙ free))
  apart_by a b x y (inr one) (inr other) equal free =
      (bytes_decides a text).0 one.0 ∙ sym ((bytes_decides b text).0 other.0)

  pub linked_named : Linked (declared scope place text (Variable (variable_as own))) after types n
  linked_named = record {
    observed = linked.observed;
    known = known_by;
    none = none_by;
    below = λ other x is. below_by other x (split other x is);
    apart = λ a b x y is is'. apart_by a b x y (split a x is) (split b y is');
    fresh = linked.fresh;
  }

module _ {scope : Scope} {names : Numbers} {types : Types} {n : ℕ} (linked : Linked scope names types n) where
  -- the next number is no name's
  pub not_named : (text : List ℕ) (x : Numbered) → found names text ≡ Some x → x.number ≡ n → ⊥
  not_named text x is same = omega (arith, linked.below text x is)

  -- a number that no name stands for
  pub linked_beside : (own : FlatVariable) → Linked scope names (with_type types n own) (n + 1)
  linked_beside own = widened (omega arith) refl (λ x low. with_type-other types n x own (λ q. omega arith))
      (λ x high. with_type-other types n x own (λ q. omega arith) ∙ linked.fresh x (omega arith)) linked

  -- a declaration
  pub linked_declared : (place : Place) (text : List ℕ) (own : FlatVariable) → found scope.names text ≡ None
      → Linked (declared scope place text (Variable (variable_as own))) (naming names text n own)
      (with_type types n own) (n + 1)
  linked_declared place text own new = linked_named (linked_beside own) place text new n own (omega arith)
      (serves_itself (with_type-same types n own)) (λ other x is same. absurd (not_named other x is same))
