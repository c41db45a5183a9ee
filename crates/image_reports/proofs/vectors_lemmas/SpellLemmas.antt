-- Texts that spell arguments have no fault, and lists of numbers are compared with texts one after another.
use Rattle.std.proofs.Common.{◌≡◌, ℕ, ◌+◌, ◌<◌, ◌≤◌, List, [], ◌∷◌, length, get_or, drop, map, All, Option, Some}
use Rattle.std.proofs.Common.{None, refl, sym, ap, ap₂, ◌∙◌}
use Rattle.std.proofs.lemmas.List.{drop_more, length-map}
use Rattle.image_reports.specs.Below.{AreWithin, Arg, ArgumentFault, ArgumentRule, Array, fault_at, fault_from}
use Rattle.image_reports.specs.Below.{fault_of_texts, FixedArray, Form, HasShape, IsWithin, MutableArray, numbers_of}
use Rattle.image_reports.specs.Below.{Param, rule_of, rule_of_numbers, rule_of_text, SingleWord, Uint32, Word, words_of}
use Rattle.image_reports.specs.vectors.Spelled.{TextsSpell, Spell}
use Rattle.image_reports.proofs.vectors_lemmas.Below.{fault_by-same, length-AreWithin, rule_of-None}

pub neither : (at : ℕ) (broken : Option ArgumentRule) (later : Option ArgumentFault) → broken ≡ None → later ≡ None
    → fault_at at broken later ≡ None
neither at None later b l = l
neither at (Some rule) later b l = cc

pub none_some : (fault : ArgumentFault) → None ≡ Some fault → ⊥
none_some fault e = cc

shaped : (param : Param) (form : Form) (arg : Arg) → param.form ≡ form → HasShape form param.length arg
    → rule_of_numbers param (Some (words_of arg)) ≡ rule_of param arg
shaped param SingleWord (Word word) is shape = rw is refl
shaped param SingleWord (Array words) is shape = absurd shape
shaped param FixedArray (Word word) is shape = absurd shape
shaped param FixedArray (Array words) is shape = rw is refl
shaped param MutableArray (Word word) is shape = absurd shape
shaped param MutableArray (Array words) is shape = rw is refl

text_faultless : (param : Param) (arg : Arg) (text : List ℕ) → IsWithin param arg
    → Some (words_of arg) ≡ numbers_of text → rule_of_text param text ≡ None
text_faultless param arg text within is = ap (rule_of_numbers param) (sym is)
    ∙ shaped param param.form arg refl within.shape ∙ rule_of-None param arg within

texts_from : (at : ℕ) (params : List Param) (texts : List (List ℕ)) (args : List Arg) → AreWithin params args
    → map (λ arg. Some (words_of arg)) args ≡ map numbers_of texts
    → fault_from rule_of_text at params texts ≡ None
texts_from at [] texts args within is = refl
texts_from at (p ∷ params) [] args within is = refl
texts_from at (p ∷ params) (text ∷ texts) [] within is = absurd within
texts_from at (p ∷ params) (text ∷ texts) (arg ∷ args) within is =
    let here : Some (words_of arg) ≡ numbers_of text = cc in
    let later : map (λ arg. Some (words_of arg)) args ≡ map numbers_of texts = cc in
    neither at (rule_of_text p text) (fault_from rule_of_text (at + 1) params texts)
    (text_faultless p arg text within.0 here) (texts_from (at + 1) params texts args within.1 later)

pub spelled_faultless : (params : List Param) (texts : List (List ℕ)) (args : List Arg) → TextsSpell params texts args
    → fault_of_texts params texts ≡ None
spelled_faultless params texts args is =
    let same : length texts ≡ length args = sym (length-map texts numbers_of) ∙ ap length (sym is.numbers)
    ∙ length-map args (λ arg. Some (words_of arg)) in
    fault_by-same rule_of_text params texts (same ∙ length-AreWithin params args is.within)
    ∙ texts_from 0 params texts args is.within is.numbers

-- a text that spells these words breaks no rule of an array of as many
pub words_unbroken : (param : Param) (words text : List ℕ) → param.kind ≡ Uint32 → param.form ≡ FixedArray
    → param.length ≡ length words → All (λ word. word ≤ 4294967295) words → numbers_of text ≡ Some words
    → rule_of_text param text ≡ None
words_unbroken param words text kind form count small is =
    text_faultless param (Array words) text (record { shape = rw form (sym count); values = rw kind small }) (sym is)

module _ {A : Type 0} (view : A → List ℕ) (texts : List A) (lists : List (List ℕ)) where
  -- the texts from a place on spell the lists from there on
  abbrev pub SpellFrom : ℕ → Type 0
  SpellFrom i = Spell (map view (drop i texts)) (drop i lists)

  module _ (i : ℕ) (d : A) (e : List ℕ) (h : i < length texts) (k : i < length lists) where
    text_left : map numbers_of (map view (drop i texts)) ≡ numbers_of (view (get_or texts i d))
        ∷ map numbers_of (map view (drop (i + 1) texts))
    text_left = ap (λ l. map numbers_of (map view l)) (drop_more texts i d h)

    list_left : map Some (drop i lists) ≡ Some (get_or lists i e) ∷ map Some (drop (i + 1) lists)
    list_left = ap (map Some) (drop_more lists i e k)

    pub spell_next : SpellFrom i → (numbers_of (view (get_or texts i d)) ≡ Some (get_or lists i e))
        × SpellFrom (i + 1)
    spell_next s = let both = sym text_left ∙ s ∙ list_left in (cc, cc)

    pub spell_also : numbers_of (view (get_or texts i d)) ≡ Some (get_or lists i e) → SpellFrom (i + 1) → SpellFrom i
    spell_also here later = text_left ∙ ap₂ (λ x l. x ∷ l) here later ∙ sym list_left
