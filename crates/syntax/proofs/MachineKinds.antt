-- What the machine's tables say of a token's kind.
use Rattle.std.proofs.Common.{◌≡◌, ◌≤◌, ◌<◌, ◌↔◌, ◌&&◌, nat_eq, Bool, true, false, Option}
use Rattle.std.proofs.Common.{inl, inr, Some, None, refl, sym, subst, ap, ap₂, ◌∙◌, arith, eqb-true, eq-eqb}
use Rattle.std.specs.Str.{bytes_eq}
use Rattle.std.proofs.lemmas.Bool.{cases_Bool}
use Rattle.std.proofs.lemmas.Slice.Eq.{bytes_eq-Decides}
use Rattle.tokens.specs.Spelling.{keyword_text, sign_text, suffix_text}
use Rattle.tokens.proofs.TokenLaws.{keyword_unique, sign_unique}
use Rattle.tokens.proofs.TokenNumbers.{suffix_unique}
use Rattle.tokens.proofs.TokenRuns.{and_true}
use Rattle.std.specs.Option.{option_map}
use Rattle.tokens.specs.declared.operators.OperandStart.{OperandStart}
use Rattle.tokens.specs.declared.operators.OperandStart.TheVariants.{Number as by_number, Truth as by_truth}
use Rattle.tokens.specs.declared.operators.OperandStart.TheVariants.{Name as by_name, Bracket as by_bracket}
use Rattle.tokens.specs.declared.operators.OperandStart.TheVariants.{Prefix as by_prefix}
use Rattle.tokens.specs.declared.operators.OperandStart.TheVariants.{Conversion as by_conversion}
use Rattle.tokens.specs.declared.operators.OperandStart.TheVariants.{Select as by_select}
use Rattle.tokens.specs.declared.operators.Link.{Link}
use Rattle.tokens.specs.declared.operators.Link.TheVariants.{Operator as by_operator, Rotation as by_rotation}
use Rattle.syntax.specs.declared.parser.statement.Start.{Start}
use Rattle.syntax.specs.declared.parser.statement.Start.TheVariants.{Declaration as by_label, Target as by_target}
use Rattle.syntax.specs.declared.parser.statement.Start.TheVariants.{Conditional as by_if, Loop as by_for}
use Rattle.syntax.specs.Below.{BinaryOperator, Kind, Label, PrefixOperator}
use Rattle.tokens.specs.declared.token.TokenKind.{TokenKind}
use Rattle.tokens.specs.declared.token.TokenKind.TheVariants as token
use Rattle.tokens.specs.declared.token.Keyword.TheVariants.{True, False, If, For, Select}
use Rattle.tokens.specs.declared.token.Sign.TheVariants.{RotateLeft, OpenRound, OpenSquare}
use Rattle.language.specs.declared.operators.BinaryOperator.TheVariants as operator
use Rattle.syntax.specs.Grammar.{prefix_of, operator_of, level_of, left_level_of, label_of, conversion_of}
use Rattle.syntax.specs.private.Machine.{fits, begins_of, link_of, link_level, starts_with}
use Rattle.tokens.specs.declared.token.Sign.TheVariants as sign

-- ---- two kinds fit exactly where they are one

pub kind-fits : (what kind : TokenKind) → fits what kind ≡ true → kind ≡ what
kind-fits token.Name token.Name e = refl
kind-fits (token.Keyword a) (token.Keyword b) e =
    ap token.Keyword (sym (keyword_unique a b ((bytes_eq-Decides (keyword_text a) (keyword_text b)).0 e)))
kind-fits (token.Sign a) (token.Sign b) e =
    ap token.Sign (sym (sign_unique a b ((bytes_eq-Decides (sign_text a) (sign_text b)).0 e)))
kind-fits (token.Number m a) (token.Number n b) e =
    let both = and_true (nat_eq m n) (bytes_eq (suffix_text a) (suffix_text b)) e in
    sym (ap₂ token.Number (eqb-true m n both.0)
    (suffix_unique a b ((bytes_eq-Decides (suffix_text a) (suffix_text b)).0 both.1)))
kind-fits _ _ e = cc

fits-itself : (kind : TokenKind) → fits kind kind ≡ true
fits-itself token.Name = refl
fits-itself (token.Keyword a) = (bytes_eq-Decides (keyword_text a) (keyword_text a)).1 refl
fits-itself (token.Sign a) = (bytes_eq-Decides (sign_text a) (sign_text a)).1 refl
fits-itself (token.Number n a) =
    ap₂ (λ x y. x && y) (eq-eqb n n refl) ((bytes_eq-Decides (suffix_text a) (suffix_text a)).1 refl)

pub fits-kind : (what kind : TokenKind) → kind ≡ what → fits what kind ≡ true
fits-kind what kind e = ap (fits what) e ∙ fits-itself what

-- what `==` answers
pub fits-equal : (what kind : TokenKind) (b : Bool) → (b ≡ true) ↔ (what ≡ kind) → b ≡ fits what kind
fits-equal what kind true h = sym (fits-kind what kind (sym (h.0 refl)))
fits-equal what kind false h = elim (cases_Bool (fits what kind)) [
  | inl is ↦ h.1 (sym (kind-fits what kind is)) ∙ sym is
  | inr is ↦ sym is
]

-- what holds of a value that is there
abbrev pub Holds : {A : Type 0} → (A → Type 0) → Option A → Type 0
Holds P None = Unit {0}
Holds P (Some x) = P x

-- what holds of a table's entry, of the entry that a table over it has
holds-mapped : {A B : Type 0} (f : A → B) (P : B → Type 0) (o : Option A) → ((x : A) → o ≡ Some x → P (f x))
    → Holds P (option_map f o)
holds-mapped f P None h = tt
holds-mapped f P (Some x) h = h x refl

-- the kind of a token that begins an operand so
abbrev pub BeginsBy : TokenKind → OperandStart → Type 0
BeginsBy kind (by_number n suffix) = kind ≡ token.Number n suffix
BeginsBy kind (by_truth true) = kind ≡ token.Keyword True
BeginsBy kind (by_truth false) = kind ≡ token.Keyword False
BeginsBy kind by_name = kind ≡ token.Name
BeginsBy kind by_bracket = kind ≡ token.Sign OpenRound
BeginsBy kind (by_prefix operator) = prefix_of kind ≡ Some operator
BeginsBy kind (by_conversion what) = conversion_of kind ≡ Some what
BeginsBy kind by_select = kind ≡ token.Keyword Select

begins-holds : (kind : TokenKind) → Holds (BeginsBy kind) (begins_of kind)
begins-holds (token.Number n suffix) = refl
begins-holds (token.Keyword True) = refl
begins-holds (token.Keyword False) = refl
begins-holds (token.Keyword Select) = refl
begins-holds (token.Keyword word) =
    holds-mapped by_conversion (BeginsBy (token.Keyword word)) (conversion_of (token.Keyword word)) (λ x e. e)
begins-holds token.Name = refl
begins-holds (token.Sign OpenRound) = refl
begins-holds (token.Sign sign) =
    holds-mapped by_prefix (BeginsBy (token.Sign sign)) (prefix_of (token.Sign sign)) (λ x e. e)

pub begins-by : (kind : TokenKind) (b : OperandStart) → begins_of kind ≡ Some b → BeginsBy kind b
begins-by kind b e = subst (λ o. Holds (BeginsBy kind) o) e (begins-holds kind)

pub prefix-begins : (kind : TokenKind) (operator : PrefixOperator) → prefix_of kind ≡ Some operator
    → begins_of kind ≡ Some (by_prefix operator)
prefix-begins (token.Sign OpenRound) operator e = cc
prefix-begins (token.Sign _) operator e = ap (option_map by_prefix) e
prefix-begins _ operator e = cc

pub conversion-begins : (kind : TokenKind) (what : Kind) → conversion_of kind ≡ Some what
    → begins_of kind ≡ Some (by_conversion what)
conversion-begins (token.Keyword True) what e = cc
conversion-begins (token.Keyword False) what e = cc
conversion-begins (token.Keyword Select) what e = cc
conversion-begins (token.Keyword _) what e = ap (option_map by_conversion) e
conversion-begins _ what e = cc

-- the kind of a token that is such a sign
abbrev pub LinksBy : TokenKind → Link → Type 0
LinksBy kind (by_operator operator) = operator_of kind ≡ Some operator
LinksBy kind by_rotation = kind ≡ token.Sign RotateLeft

links-holds : (kind : TokenKind) → Holds (LinksBy kind) (link_of kind)
links-holds (token.Sign RotateLeft) = refl
links-holds kind = holds-mapped by_operator (LinksBy kind) (operator_of kind) (λ x e. e)

pub links-by : (kind : TokenKind) (link : Link) → link_of kind ≡ Some link → LinksBy kind link
links-by kind link e = subst (λ o. Holds (LinksBy kind) o) e (links-holds kind)

pub operator-links : (kind : TokenKind) (o : BinaryOperator) → operator_of kind ≡ Some o
    → link_of kind ≡ Some (by_operator o)
operator-links (token.Sign RotateLeft) o e = cc
operator-links kind o e = ap (option_map by_operator) e

-- the kind of a token that begins a statement so
abbrev pub StartsBy : TokenKind → Start → Type 0
StartsBy kind (by_label label) = label_of kind ≡ Some label
StartsBy kind by_target = kind ≡ token.Name
StartsBy kind by_if = kind ≡ token.Keyword If
StartsBy kind by_for = kind ≡ token.Keyword For

starts-holds : (kind : TokenKind) → Holds (StartsBy kind) (starts_with kind)
starts-holds token.Name = refl
starts-holds (token.Keyword If) = refl
starts-holds (token.Keyword For) = refl
starts-holds kind = holds-mapped by_label (StartsBy kind) (label_of kind) (λ x e. e)

pub starts-by : (kind : TokenKind) (start : Start) → starts_with kind ≡ Some start → StartsBy kind start
starts-by kind start e = subst (λ o. Holds (StartsBy kind) o) e (starts-holds kind)

pub label-starts : (kind : TokenKind) (label : Label) → label_of kind ≡ Some label
    → starts_with kind ≡ Some (by_label label)
label-starts token.Name label e = cc
label-starts (token.Keyword If) label e = cc
label-starts (token.Keyword For) label e = cc
label-starts kind label e = ap (option_map by_label) e

-- operators bind less strongly than signs before an operand
pub weak_level : (link : Link) → link_level link < 10
weak_level (by_operator operator.LogicalOr) = omega arith
weak_level (by_operator o) = omega arith
weak_level by_rotation = omega arith

-- a left operand binds as strongly as the operator, or one level more
pub left_levels : (o : BinaryOperator) → (level_of o ≤ left_level_of o) × (left_level_of o < 10)
left_levels operator.LogicalOr = (omega arith, omega arith)
left_levels o = (omega arith, omega arith)

-- no opening bracket, such as stands after a name
abbrev pub Bars : TokenKind → Type 0
Bars kind = (fits (token.Sign sign.OpenSquare) kind ≡ false) × (fits (token.Sign sign.OpenRound) kind ≡ false)

-- what has an entry in a table is nothing that has none
pub unlike : {A : Type 0} (table : TokenKind → Option A) (what : TokenKind) → table what ≡ None
    → {kind : TokenKind} {x : A} → table kind ≡ Some x → fits what kind ≡ false
unlike table what none {kind} {x} is = elim (cases_Bool (fits what kind)) [
  | inl same ↦ (let found : None ≡ Some x = sym none ∙ ap table (sym (kind-fits what kind same)) ∙ is in cc)
  | inr other ↦ other
]
