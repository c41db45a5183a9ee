-- What passes the test for types is well typed.
use Rattle.std.proofs.Common.{◌≡◌, ℕ, ◌+◌, ◌<◌, ◌==◌, ◌&&◌, ◌||◌, not, Bool, true, false, if◌then◌else◌}
use Rattle.std.proofs.Common.{List, [], ◌∷◌, length, Option, None, Some, slice_get, refl, sym, ap, ◌∙◌}
use Rattle.std.proofs.Common.{subst, take as first_of, arith, rules}
use Rattle.std.proofs.lemmas.Bool.{and_parts, eqb-true, false≢true, ltb-true, ne_eqb, not-true}
use Rattle.std.proofs.lemmas.Option.{none-some, same_Some}
use Rattle.std.specs.Option.{option_map}
use Rattle.branch_removal.specs.Below.{AllSuit, are_met, array_as, binary, binary_rules, BinaryOperator, bits, bits_of}
use Rattle.branch_removal.specs.Below.{Boolean, convert, counter_type, element, FlatVariable, HasCount, TermHasType}
use Rattle.branch_removal.specs.Below.{is_hidden, is_narrow, is_secret, IsResult, joined, Label, labelled, Makes}
use Rattle.branch_removal.specs.Below.{number, number_rules, of_binary, of_conversion, of_element, of_number, of_one}
use Rattle.branch_removal.specs.Below.{of_prefix, of_rotation, of_selection, of_three, of_truth, of_two, of_variable}
use Rattle.branch_removal.specs.Below.{operation_kind, operation_of, Place, prefix, prefix_rules, PrefixOperator}
use Rattle.branch_removal.specs.Below.{Profile, Public, public_flows, rotate, rotate_rules, Secret, secret_flows}
use Rattle.branch_removal.specs.Below.{select, select_rules, TermSuits, suits as flow_suits, Takes, TermTree, truth}
use Rattle.branch_removal.specs.Below.{Types, types_of, unless, ValueType, variable, Width, width_of, Word, word_as}
use Rattle.branch_removal.specs.Below.{WordType}
use Rattle.language.specs.Grammatical.{IsNumberKind}
use Rattle.language.specs.WellTyped.{Suits as SuitsWord}
use Rattle.language.specs.declared.rule.Rule.{Rule}
use Rattle.language.proofs.typing_laws_lemmas.NoRules.{is_met}
use Rattle.language.proofs.typing_laws_lemmas.Nodes.{is_operated, is_rotated, is_selected, made, public_index}
use Rattle.language.proofs.typing_laws_lemmas.Nodes.{taken_by_sign}
use Rattle.language.proofs.typing_laws_lemmas.TypeTests.{a_number, bool_word}
use Rattle.language.proofs.typing_laws_lemmas.Values.{is_suited}
use Rattle.word.specs.declared.width.Width.TheVariants.{W8, W16, W32}
use Rattle.branch_removal.specs.Straight.{StraightTree, set, array, put, take, branch, repeats}
use Rattle.branch_removal.specs.Straight.{StraightBlock, nothing, first}
use Rattle.branch_removal.specs.StraightTyping.{IsAmong, IsTyped, AreTyped, IsHidden, AreHidden, IsSecretWithin}
use Rattle.branch_removal.specs.StraightTyping.{types_but}
use Rattle.branch_removal.specs.private.Checks.{all_suit, are_typed, come_first, decides, element_by}
use Rattle.branch_removal.specs.private.Checks.{element_in, is_among, is_counter, is_loop_counter, is_result}
use Rattle.branch_removal.specs.private.Checks.{is_typed, may_fill, may_keep, may_set, passes, same_variable}
use Rattle.branch_removal.specs.private.Checks.{suits, type_of, types_beside, word_by, word_in}

-- what two tests say together
pub both : {a b : Bool} {A B : Type 0} → (a ≡ true → A) → (b ≡ true → B) → (a && b) ≡ true → A × B
both {a = a} {b = b} one other h = let parts = and_parts a b h in (one parts.0, other parts.1)

-- Widths, labels and variables.

one_width : (v w : Width) → (bits v == bits w) ≡ true → v ≡ w
one_width W8 W8 h = refl
one_width W16 W16 h = refl
one_width W32 W32 h = refl
one_width v w h = absurd (false≢true h)

a_public : (l : Label) → not (is_secret l) ≡ true → l ≡ Public
a_public Public h = refl
a_public Secret h = absurd (false≢true h)

a_secret : (l : Label) → is_secret l ≡ true → l ≡ Secret
a_secret Public h = absurd (false≢true h)
a_secret Secret h = refl

one_variable : (d e : FlatVariable) → same_variable d e ≡ true → d ≡ e
one_variable d e h = search rules

-- what is there only if something holds
only : {A : Type 0} (b : Bool) (one word : A) → (if b then Some one else None) ≡ Some word → (b ≡ true) × (one ≡ word)
only true one word is = (refl, same_Some one word is)
only false one word is = absurd (none-some word is)

a_word : (o : Option FlatVariable) (word : WordType) → word_in o ≡ Some word
    → (mutable : Bool) × (o ≡ Some (word_as word mutable))
a_word None word is = absurd (none-some word is)
a_word (Some d) word is = (d.mutable, ap Some (declared d.elements refl is))
  where
    declared : (elements : Option ℕ) → d.elements ≡ elements → word_by d.word elements ≡ Some word
        → d ≡ word_as word d.mutable
    declared None none same =
        λ i. record { word = same_Some d.word word same i; mutable = d.mutable; elements = none i }
    declared (Some size) some same = absurd (none-some word same)

an_array : (size : ℕ) (o : Option FlatVariable) (word : WordType) → element_in size o ≡ Some word
    → (mutable : Bool) × (o ≡ Some (array_as word mutable size))
an_array size None word is = absurd (none-some word is)
an_array size (Some d) word is = (d.mutable, ap Some (declared d.elements refl is))
  where
    declared : (elements : Option ℕ) → d.elements ≡ elements → element_by size d.word elements ≡ Some word
        → d ≡ array_as word d.mutable size
    declared None none same = absurd (none-some word same)
    declared (Some n) some same =
        let both = only (n == size) d.word word same in
        let count : d.elements ≡ Some size = some ∙ ap Some (eqb-true n size both.0) in
        λ i. record { word = both.1 i; mutable = d.mutable; elements = count i }

-- Expressions.

-- what has a type by the test has it by the rules of inference, and it is a word's
pub data TypedByRules (types : Types) (e : TermTree) : Option ValueType → Type 0 where
  typed : {w : WordType} → TermHasType types e w → TypedByRules types e (Some (Word w))
  untyped : TypedByRules types e None

module _ {types : Types} {e : TermTree} where
  where_true : (b : Bool) {type : Option ValueType} → (b ≡ true → TypedByRules types e type)
      → TypedByRules types e (if b then type else None)
  where_true true so = so refl
  where_true false so = untyped

  where_met : (rules : List Rule) {type : ValueType} → (rules ≡ [] → TypedByRules types e (Some type))
      → TypedByRules types e (unless rules type)
  where_met [] so = so refl
  where_met (rule ∷ rules) so = untyped

  where_known : (word : Option WordType) → ((w : WordType) → word ≡ Some w → TermHasType types e w)
      → TypedByRules types e (option_map Word word)
  where_known (Some w) so = typed (so w refl)
  where_known None so = untyped

  of_part : {f : TermTree} (make : ValueType → Option ValueType) {type : Option ValueType} → TypedByRules types f type
      → ((w : WordType) → TermHasType types f w → TypedByRules types e (make (Word w))) → TypedByRules types e
      (of_one None make type)
  of_part make (typed {w = w} has) so = so w has
  of_part make untyped so = untyped

  of_parts : {f g : TermTree} (make : ValueType → ValueType → Option ValueType) {type other : Option ValueType}
      → TypedByRules types f type → TypedByRules types g other
      → ((v w : WordType) → TermHasType types f v → TermHasType types g w → TypedByRules types e
      (make (Word v) (Word w)))
      → TypedByRules types e (of_two None make type other)
  of_parts make (typed {w = v} has) (typed {w = w} more) so = so v w has more
  of_parts make (typed has) untyped so = untyped
  of_parts make untyped _ so = untyped

  of_all_parts : {f g h : TermTree} (make : ValueType → ValueType → ValueType → Option ValueType)
      {type other last : Option ValueType} → TypedByRules types f type → TypedByRules types g other
      → TypedByRules types h last
      → ((u v w : WordType) → TermHasType types f u → TermHasType types g v → TermHasType types h w
      → TypedByRules types e (make (Word u) (Word v) (Word w)))
      → TypedByRules types e (of_three None make type other last)
  of_all_parts make (typed {w = u} has) (typed {w = v} more) (typed {w = w} most) so = so u v w has more most
  of_all_parts make (typed has) (typed more) untyped so = untyped
  of_all_parts make (typed has) untyped _ so = untyped
  of_all_parts make untyped _ _ so = untyped

  -- what is tested of its type is so of a word that it has
  where_passed : (test : ValueType → Bool) {A : Type 0} {type : Option ValueType} → TypedByRules types e type
      → ((w : WordType) → TermHasType types e w → test (Word w) ≡ true → A) → of_one false test type ≡ true → A
  where_passed test (typed {w = w} has) so h = so w has h
  where_passed test untyped so h = absurd (false≢true h)

  has_counter : {w : WordType} → TermHasType types e w → is_counter (Word w) ≡ true → TermHasType types e counter_type
  has_counter {w = w} has h =
      let parts = both (both (λ number. number) (not-true (is_narrow (Word w)))) (not-true (is_hidden (Word w))) h in
      let index = public_index (Word w) parts.0.1 parts.0.0 parts.1 in
      let same : w ≡ counter_type = cc in
      subst (TermHasType types e) same has

module _ (types : Types) where
  has_sign : (operator : PrefixOperator) (width : Width) (e : TermTree) (w : WordType) → TermHasType types e w
      → width ≡ width_of w.kind → prefix_rules operator (Word w) ≡ [] → TermHasType types (prefix operator width e) w
  has_sign operator width e w has wide none =
      let taken = taken_by_sign operator (Word w) none in
      let same : taken.0 ≡ w = cc in
      of_prefix {kind = w.kind} {label = w.label} has (subst (λ v. Takes operator v.kind) same taken.2) wide

  has_binary : (place : Place) (operator : BinaryOperator) (width : Width) (e f : TermTree) (v w : WordType)
      → TermHasType types e v → TermHasType types f w → width ≡ width_of v.kind
      → binary_rules types.profile operator (Word v) (Word w) ≡ []
      → TermHasType types (binary place operator width e f)
      (labelled (operation_kind (operation_of operator) v.kind) (joined v.label w.label))
  has_binary place operator width e f v w has more wide none =
      let x = is_operated types.profile (operation_of operator) (Word v) (Word w) none in
      let one : x.one ≡ v = cc in
      let other : x.other ≡ w = cc in
      let makes : Makes types.profile (operation_of operator) v w x.whole =
      subst (λ (u : WordType). Makes types.profile (operation_of operator) v u x.whole) other
      (subst (λ (u : WordType). Makes types.profile (operation_of operator) u x.other x.whole) one x.makes) in
      subst (TermHasType types (binary place operator width e f)) (sym (made makes).whole_is)
      (of_binary has more makes wide)

  has_rotation : (width : Width) (e : TermTree) (amount : ℕ) (w : WordType) → TermHasType types e w
      → width ≡ width_of w.kind → rotate_rules amount (Word w) ≡ [] → TermHasType types (rotate width e amount) w
  has_rotation width e amount w has wide none =
      let x = is_rotated amount (Word w) none in
      let same : x.of ≡ w = cc in
      of_rotation {kind = w.kind} {label = w.label} has (subst (λ (v : WordType). IsNumberKind v.kind) same x.number)
      x.low (subst (λ (v : WordType). amount < bits_of v.kind) same x.high) wide

  has_selection : (e f g : TermTree) (u v w : WordType) → TermHasType types e u → TermHasType types f v
      → TermHasType types g w
      → select_rules (Word u) (Word v) (Word w) ≡ []
      → TermHasType types (select e f g) (labelled v.kind (joined u.label (joined v.label w.label)))
  has_selection e f g u v w has more most none =
      let x = is_selected (Word u) (Word v) (Word w) none in
      let chooser : u ≡ labelled Boolean x.condition = cc in
      let one : v ≡ labelled x.kind x.one = cc in
      let other : w ≡ labelled x.kind x.other = cc in
      subst (TermHasType types (select e f g))
      (λ i. labelled (sym one i).kind (joined (sym chooser i).label (joined (sym one i).label (sym other i).label)))
      (of_selection (subst (TermHasType types e) chooser has) (subst (TermHasType types f) one more)
      (subst (TermHasType types g) other most))

  pub is_typed_term : (e : TermTree) → TypedByRules types e (type_of types e)
  is_typed_term (number value kind) =
      where_met (number_rules value kind) (λ none. typed (of_number (ltb-true _ _ (is_met _ none))))
  is_typed_term (truth value) = typed of_truth
  is_typed_term (variable x) =
      where_known (word_in (types.at x)) (λ w known. of_variable (a_word (types.at x) w known).1)
  is_typed_term (prefix operator width e) =
      of_part _ (is_typed_term e) (λ w has.
      where_true _ (λ wide. where_met _ (λ none. typed (has_sign operator width e w has (one_width _ _ wide) none))))
  is_typed_term (binary place operator width e f) =
      of_parts _ (is_typed_term e) (is_typed_term f) (λ v w has more.
      where_true _ (λ wide. where_met _ (λ none.
      typed (has_binary place operator width e f v w has more (one_width _ _ wide) none))))
  is_typed_term (rotate width e amount) =
      of_part _ (is_typed_term e) (λ w has.
      where_true _ (λ wide. where_met _ (λ none. typed (has_rotation width e amount w has (one_width _ _ wide) none))))
  is_typed_term (convert kind e) =
      of_part _ (is_typed_term e) (λ w has.
      where_true _ (λ number. where_met _ (λ none.
      typed (of_conversion {other = w.kind} {label = w.label} has (a_number kind number)))))
  is_typed_term (select e f g) =
      of_all_parts _ (is_typed_term e) (is_typed_term f) (is_typed_term g) (λ u v w has more most.
      where_met _ (λ none. typed (has_selection e f g u v w has more most none)))
  is_typed_term (element place x size e) =
      of_part _ (is_typed_term e) (λ w has.
      where_true _ (λ counts. where_known (element_in size (types.at x)) (λ word known.
      of_element (an_array size (types.at x) word known).1 (has_counter has counts))))

  -- Values.

  flowing : {wanted w : WordType} {e : TermTree} → SuitsWord w wanted → TermHasType types e w → TermSuits types wanted e
  flowing (flow_suits public_flows) has = record { word = _; has_type = has; kind = refl; label = λ is. refl }
  flowing (flow_suits secret_flows) has = record { word = _; has_type = has; kind = refl; label = λ is. cc }

  no_rule : (rules : List Rule) → are_met rules ≡ true → rules ≡ []
  no_rule [] h = refl
  no_rule (rule ∷ rules) h = absurd (false≢true h)

  pub it_suits : (wanted : WordType) (e : TermTree) → passes (suits wanted) types e ≡ true → TermSuits types wanted e
  it_suits wanted e = where_passed _ (is_typed_term e) (λ w has h.
      let suited = is_suited wanted (Word w) (no_rule _ h) in
      let same : w ≡ suited.0 = cc in
      flowing suited.2 (subst (TermHasType types e) same has))

  pub they_suit : (wanted : WordType) (es : List TermTree) → all_suit types wanted es ≡ true
      → AllSuit types wanted es
  they_suit wanted [] h = tt
  they_suit wanted (e ∷ es) h = both (it_suits wanted e) (they_suit wanted es) h

  pub it_counts : (e : TermTree) → passes is_counter types e ≡ true → TermHasType types e counter_type
  it_counts e = where_passed _ (is_typed_term e) (λ w has h. has_counter has h)

  pub it_decides : (public : Bool) (e : TermTree) → passes (decides public) types e ≡ true
      → (label : Label) × TermHasType types e (labelled Boolean label) × (public ≡ true → label ≡ Public)
  it_decides public e = where_passed _ (is_typed_term e) (λ w has h.
      let parts = both (bool_word (Word w)) (λ (open_to : not (public && is_hidden (Word w)) ≡ true). open_to) h in
      let same : w ≡ labelled Boolean parts.0.0 = cc in (
        parts.0.0,
        subst (TermHasType types e) same has,
        λ is. sym (ap (λ (v : WordType). v.label) same) ∙ a_public w.label (rw is at parts.1),
      ))

  pub it_results : (returned : Option WordType) (value : Option TermTree) → is_result types returned value ≡ true
      → IsResult types returned value
  it_results None None h = tt
  it_results (Some wanted) (Some value) h = it_suits wanted value h
  it_results returned value h = absurd (false≢true h)

or_right : (a b : Bool) → a ≡ false → (a || b) ≡ true → b ≡ true
or_right false b none h = h
or_right true b none h = absurd (false≢true (sym none))

it_counts_all : (size : ℕ) (es : List TermTree) → ((length es == 0) || (length es == size)) ≡ true → HasCount size es
it_counts_all size [] h = tt
it_counts_all size (e ∷ es) h =
    let some : (length (e ∷ es) == 0) ≡ false = ne_eqb (length (e ∷ es)) 0 (λ same. omega (arith, same)) in
    eqb-true (length (e ∷ es)) size (or_right (length (e ∷ es) == 0) (length (e ∷ es) == size) some h)

-- Statements.

module _ (profile : Profile) (declared : List FlatVariable) (controls : ℕ) where
  abbrev types : Types
  types = types_of profile declared

  among : (within : Option ℕ) → is_among controls within ≡ true → IsAmong controls within
  among None h = tt
  among (Some control) h = ltb-true control controls h

  secret : (within : Option ℕ) (x : ℕ) (d : FlatVariable) → slice_get declared x ≡ Some d
      → may_keep within d.word.label ≡ true → IsSecretWithin declared within x
  secret None x d there h = tt
  secret (Some control) x d there h =
      λ other is. rw (same_Some other d (sym is ∙ there)) (a_secret d.word.label h)

  -- a word that is set, and is secret under a control value
  record IsWordSet (within : Option ℕ) (o : Option WordType) (e : TermTree) : Type 0 where
    pub word : WordType
    pub known : o ≡ Some word
    pub among : IsAmong controls within
    pub suits : TermSuits types word e
    pub hidden : may_keep within word.label ≡ true

  given : (within : Option ℕ) (o : Option WordType) (e : TermTree) → may_set types controls within o e ≡ true
      → IsWordSet within o e
  given within None e h = absurd (false≢true h)
  given within (Some word) e h =
      let all = both (both (among within) (λ (keeps : may_keep within word.label ≡ true). keeps)) (it_suits types word e) h in
      record { word = word; known = refl; among = all.0.0; suits = all.1; hidden = all.0.1 }

  filled : (x size : ℕ) (es : List TermTree) (o : Option WordType) → element_in size (slice_get declared x) ≡ o
      → may_fill (types_beside profile declared (Some x)) size o es ≡ true
      → IsTyped profile declared controls (array x size es)
  filled x size es None there h = absurd (false≢true h)
  filled x size es (Some word) there h =
      let parts = both (it_counts_all size es) (they_suit (types_but profile declared x) word es) h in
      let found = an_array size (slice_get declared x) word there in
      record { word = word; mutable = found.0; known = found.1; suit = parts.1; count = parts.0 }

  a_counter : (o : Option FlatVariable) → is_loop_counter o ≡ true → o ≡ Some (word_as counter_type false)
  a_counter None h = absurd (false≢true h)
  a_counter (Some d) h = ap Some (sym (one_variable (word_as counter_type false) d h))

  -- well typed, and sets only what is secret under a control value
  pub record Fit (b : StraightBlock) : Type 0 where
    pub typed : AreTyped profile declared controls b
    pub hidden : AreHidden declared b

  mutual
    fits : (s : StraightTree) → is_typed profile declared controls s ≡ true
        → IsTyped profile declared controls s × IsHidden declared s
    fits (set within x value) h =
        let is = given within (word_in (slice_get declared x)) value h in
        let found = a_word (slice_get declared x) is.word is.known in (
          (is.among, record { word = is.word; mutable = found.0; known = found.1; suits = is.suits }),
          secret within x (word_as is.word found.0) found.1 is.hidden,
        )
    fits (array x size es) h = (filled x size es (element_in size (slice_get declared x)) refl h, tt)
    fits (put within place x size index value) h =
        let parts = both (it_counts types index) (given within (element_in size (slice_get declared x)) value) h in
        let is = parts.1 in
        let found = an_array size (slice_get declared x) is.word is.known in (
          (
            is.among,
            record {
              word = is.word;
              mutable = found.0;
              known = found.1;
              index_type = parts.0;
              suits = is.suits;
            },
          ),
          secret within x (array_as is.word found.0 size) found.1 is.hidden,
        )
    fits (take control within condition) h =
        let parts = both (both (ltb-true (control + 1) controls) (among within)) (it_decides types false condition) h in
        ((parts.0.0, parts.0.1, (parts.1.0, parts.1.1)), tt)
    fits (branch condition accepted otherwise) h =
        let parts = both (both (it_decides types true condition) (all_fit accepted)) (all_fit otherwise) h in
        let decides = parts.0.0 in (
          (
            subst (λ l. TermHasType types condition (labelled Boolean l)) (decides.2 refl) decides.1,
            parts.0.1.typed,
            parts.1.typed,
          ),
          (parts.0.1.hidden, parts.1.hidden),
        )
    fits (repeats x low high body) h =
        let parts = both (both (both (a_counter (slice_get declared x)) (it_counts types low)) (it_counts types high))
        (all_fit body) h in
        ((parts.0.0.1, parts.0.1, parts.0.0.0, parts.1.typed), parts.1.hidden)

    pub all_fit : (b : StraightBlock) → are_typed profile declared controls b ≡ true → Fit b
    all_fit nothing h = record { typed = tt; hidden = tt }
    all_fit (first s rest) h =
        let parts = both (fits s) (all_fit rest) h in
        record { typed = (parts.0.0, parts.1.typed); hidden = (parts.0.1, parts.1.hidden) }

-- Parameters.

pub they_come_first : (ps ds : List FlatVariable) → come_first ps ds ≡ true
    → first_of (length ps) ds ≡ ps
they_come_first [] ds h = refl
they_come_first (p ∷ ps) [] h = cc
they_come_first (p ∷ ps) (d ∷ ds) h =
    let same = both (one_variable p d) (they_come_first ps ds) h in λ i. sym same.0 i ∷ same.1 i
