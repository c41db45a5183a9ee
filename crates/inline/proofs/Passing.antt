-- What a called body's names hold where it begins: words as evaluated, arrays as the caller's.
use Rattle.std.proofs.Common.{◌≡◌, ℕ, ◌+◌, ◌<◌, false, if◌then◌else◌, List, [], ◌∷◌, Option, Some, None}
use Rattle.std.proofs.Common.{inl, inr, refl, sym, ap, ◌∙◌, subst, arith, true≢false}
use Rattle.std.proofs.lemmas.Bool.{cases_Bool}
use Rattle.std.proofs.lemmas.Option.{none-some, same_Some}
use Rattle.std.specs.Str.{bytes_eq}
use lib.Pointwise.{bytes_decides}
use Rattle.inline.specs.declared.numbering.Numbered.{Numbered}
use Rattle.inline.specs.FlatMeaning.{Values, value_in, path_in, after_all, path_along}
use Rattle.inline.specs.FlatMeaning as flat_meaning
use Rattle.inline.specs.FlatTyping.{Types}
use Rattle.inline.specs.Numbering.{Numbers, naming, begun, passed, number_given, own_variable, term}
use Rattle.inline.specs.Path.{first_fault}
use Rattle.inline.specs.Below.{AreAllSmall, ArePassed, argument_held, array_named, EvaluatesAll, ExprTree, Form, found}
use Rattle.inline.specs.Below.{is_word, later_faults, none_left, none_passed, one_passed, ParameterTree, Scope, single}
use Rattle.inline.specs.Below.{SingleWord, State, this_faults, Value, with_some, word_arguments, words_left, WordType}
use Rattle.language.specs.Meaning.{one_more}
use Rattle.language.specs.Meaning as meaning
use Rattle.language.specs.State.{Word}
use Rattle.language.specs.WellTyped as rules
use Rattle.inline.proofs.Begun.{word_given, array_passed, kept_begun}
use Rattle.inline.proofs.Comes.{Comes, well, then_comes, also, across}
use Rattle.inline.proofs.Linked.{Linked, entry, later, not_named}
use Rattle.inline.proofs.Below.{found-new, found-other}
use Rattle.inline.proofs.States.{with_value-other, with_value-same, shows_kept}
use Rattle.inline.proofs.Terms.{VariableHolds, Shows, word_at, held, means}

-- words go into new variables
pub passed_keeps : (names : Numbers) (ps : List ParameterTree) (es : List ExprTree) (n x : ℕ) → x < n → (m : Values)
    → after_all m (passed names n ps es) x ≡ m x
passed_keeps names [] es n x low m = refl
passed_keeps names (p ∷ ps) [] n x low m = refl
passed_keeps names (p ∷ ps) (e ∷ es) n x low m = elim (cases_Bool (is_word p.form)) [
  | inl word ↦ rw word
      (passed_keeps names ps es (n + 1) x (omega arith) (flat_meaning.with_value m n (value_in m (term names e) ∷ []))
      ∙ with_value-other m n x (value_in m (term names e) ∷ []) (λ q. omega arith))
  | inr array ↦ rw array (passed_keeps names ps es n x low m)
]

pub held_by_other : (s : State) (text other : List ℕ) (v : Option Value) → bytes_eq other text ≡ false
    → with_some s text v other ≡ s other
held_by_other s text other None e = refl
held_by_other s text other (Some w) e = ap (λ b. if b then Some w else s other) e

array_held : (s : State) (form : Form) (e : ExprTree) (vs : List Word) → is_word form ≡ false
    → argument_held s form e vs ≡ array_named s e
array_held s SingleWord e vs off = absurd (true≢false off)
array_held s form e vs off = refl

no_word_left : (form : Form) (vs : List Word) → is_word form ≡ false → words_left form vs ≡ vs
no_word_left SingleWord vs off = absurd (true≢false off)
no_word_left form vs off = refl

-- what is put where a type is wanted has its kind
pub kind_suits : {given wanted : WordType} → rules.Suits given wanted → given.kind ≡ wanted.kind
kind_suits (rules.suits flow) = refl

-- the called body's names hold what their variables do
abbrev pub AreHeld : Numbers → ℕ → List ParameterTree → List ExprTree → State → Values → List Word → Type 0
AreHeld names n ps es s m vs =
    (own : Numbers) (text : List ℕ) (x : Numbered) → found own text ≡ None
    → found (begun names own n ps es) text ≡ Some x → VariableHolds x.declaration (meaning.begun s ps es vs text)
    (after_all m (passed names n ps es) x.number)

-- with one more name, for what its variable holds
with_one : (names : Numbers) (s : State) (p : ParameterTree) (ps : List ParameterTree) (es : List ExprTree)
    (number n : ℕ) (m : Values) (value : Option Value) (w : Value) (left : List Word) → value ≡ Some w
    → VariableHolds (own_variable p) (Some w) (after_all m (passed names n ps es) number)
    → AreHeld names n ps es s m left
    → (own : Numbers) (text : List ℕ) (x : Numbered) → found own text ≡ None
    → found (begun names (naming own p.name number (own_variable p)) n ps es) text ≡ Some x
    → VariableHolds x.declaration (with_some (meaning.begun s ps es left) p.name value text)
    (after_all m (passed names n ps es) x.number)
with_one names s p ps es number n m value w left there first rest own text x none is =
    let named = entry number (own_variable p) in
    let more = naming own p.name number (own_variable p) in
    elim (cases_Bool (bytes_eq text p.name)) [
      | inl same ↦ (
          let new = ap (found own) (sym ((bytes_decides text p.name).0 same)) ∙ none in
          let here = kept_begun names ps es more n text named (found-new own p.name named text same new) in
          rw (← same_Some named x (sym here ∙ is), there, same) first)
      | inr other ↦ rw (held_by_other (meaning.begun s ps es left) p.name text value other)
          (rest more text x (found-other own p.name named text other ∙ none) is)
    ]

word_holds : (p : ParameterTree) (w : Word) (v : ℕ) → p.form ≡ SingleWord → w ≡ word_at p.kind v
    → VariableHolds (own_variable p) (Some (single w)) (v ∷ [])
word_holds p w v form same = record { is = rw (same, form); count = rw form }

-- the words of arguments, from left to right
pub passed_comes : {scope : Scope} {names : Numbers} {s : State} {ps : List ParameterTree} {es : List ExprTree}
    → ArePassed scope ps es → AreAllSmall es → {types : Types} {n : ℕ} → Linked scope names types n → (m : Values)
    → Shows names s m
    → Comes (EvaluatesAll s (word_arguments ps es)) (AreHeld names n ps es s m)
    (first_fault (path_along m (passed names n ps es)))
passed_comes none_passed small linked m shows =
    well [] none_left (λ own text x none is. absurd (none-some x (sym none ∙ is)))
passed_comes {names = names} {s = s} (one_passed {p = p} {ps = ps} {argument = e} {arguments = es} is shares are) small
    {n = n} linked m shows = elim (cases_Bool (is_word p.form)) [
      | inl word ↦ (
          let g = word_given is word in
          let v = value_in m (term names e) in
          let next = flat_meaning.with_value m n (v ∷ []) in
          let shown = shows_kept names s m next shows
          (λ text x there. with_value-other m n x.number (v ∷ []) (not_named linked text x there)) in
          let here = passed_keeps names ps es (n + 1) n (omega arith) next ∙ with_value-same m n (v ∷ []) in
          rw (word, across (path_in m (term names e)) (path_along next (passed names (n + 1) ps es)))
          (then_comes ((means linked g.has small.0).value s m shows)
          (λ w one same.
          also (passed_comes are small.1 (later (omega arith) linked) next shown)
          (λ vs all holds. (
            w ∷ vs,
            one_more one all,
            rw word (with_one names s p ps es n (n + 1) next _ (single w) _
                (ap (λ f. argument_held s f e (w ∷ vs)) g.form)
                (rw here (word_holds p w v g.form (same ∙ ap (λ k. word_at k v) (kind_suits g.suits))))
                (subst (AreHeld names (n + 1) ps es s next) (sym (ap (λ f. words_left f (w ∷ vs)) g.form)) holds)),
          ))
          (λ at all. later_faults one all))
          (λ at one. this_faults one)))
      | inr array ↦ (
          let a = array_passed linked is array in
          let there = shows a.text _ a.found in
          let number = number_given names e in
          rw array (also (passed_comes are small.1 linked m shows)
          (λ vs all holds. (
            vs,
            all,
            rw array (with_one names s p ps es number n m _ (held p.kind (Some p.length) (m number)) _
                (array_held s p.form e vs array ∙ (ap (array_named s) a.named ∙ there.is))
                (rw (passed_keeps names ps es n number a.low m)
                (record { is = rw a.elements; count = rw a.elements there.count }))
                (subst (AreHeld names n ps es s m) (sym (no_word_left p.form vs array)) holds)),
          ))
          (λ at all. all)))
    ]
