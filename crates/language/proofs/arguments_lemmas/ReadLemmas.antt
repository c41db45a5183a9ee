-- The arguments that texts without fault spell.
use Rattle.std.proofs.Common.{◌≡◌, ℕ, ◌+◌, ◌-◌, ◌^◌, ◌<◌, min, true, false, nat_le, nat_lt, if◌then◌else◌}
use Rattle.std.proofs.Common.{◌==◌, List, [], ◌∷◌, ◌++◌, length, get_or, take, map, ◌⊎◌, inl, inr, Option, Some, None}
use Rattle.std.proofs.Common.{Result, Ok, Err, ◌↔◌, refl, sym, ap, ◌∙◌, arith}
use Rattle.std.specs.List.{list_all, filter_map}
use Rattle.std.specs.Option.{option_and_then}
use Rattle.std.proofs.lemmas.List.{length-map, take_more, map-append}
use Rattle.std.proofs.lemmas.Bool.{and_parts, cases_lt}
use Rattle.std.proofs.lemmas.Bool.Decides.{Decides-eqb, nat_tests}
use Rattle.language.specs.declared.signature.Form.{Form}
use Rattle.language.specs.declared.signature.Form.TheVariants.{SingleWord, FixedArray, MutableArray}
use Rattle.language.specs.declared.signature.Kind.{Kind}
use Rattle.language.specs.declared.signature.Kind.TheVariants.{Boolean}
use Rattle.language.specs.declared.signature.Param.{Param}
use Rattle.language.specs.declared.values.Arg.{Arg}
use Rattle.language.specs.declared.values.Arg.TheVariants.{Word, Array}
use Rattle.language.specs.arguments.Within.{greatest_of, words_of, HasShape, IsWithin, AreWithin}
use Rattle.language.specs.arguments.Faults.{fault_at, fault_from, fault_by, count_fault}
use Rattle.language.specs.arguments.Texts.{number_of, each_number, word_of, count_of, rule_of_numbers}
use Rattle.language.specs.declared.arguments.fault.ArgumentFault.{ArgumentFault}
use Rattle.language.specs.declared.arguments.fault.ArgumentRule.{ArgumentRule}
use Rattle.language.specs.declared.arguments.texts.ReadError.{ReadError}
use Rattle.language.specs.declared.arguments.texts.ReadError.TheVariants.{Argument, Memory}
use Rattle.language.proofs.arguments_lemmas.NumberLemmas.{capped}
use Rattle.language.proofs.arguments_lemmas.TextLemmas.{splits}
use Rattle.language.proofs.arguments_lemmas.FaultLemmas.{Decides-values, both_hold}

-- ---- the words of one text
-- a number that fits a word
abbrev pub fitting : Option ℕ → Option ℕ
fitting number = option_and_then (λ n. if nat_lt n (2 ^ 32) then Some n else None) number

fitting-capped : (number : Option ℕ) → fitting (capped number) ≡ fitting number
fitting-capped None = refl
fitting-capped (Some n) = elim (cases_lt n (2 ^ 32)) [
  | inl below ↦ (let same : min n (2 ^ 64 - 1) ≡ n = omega arith in rw same)
  | inr over ↦ (let least : nat_lt (min n (2 ^ 64 - 1)) (2 ^ 32) ≡ false = grind (arith, nat_tests) in
      let all : nat_lt n (2 ^ 32) ≡ false = grind (arith, nat_tests) in rw (least, all))
]

pub filter_map-word_of : (parts : List (List ℕ)) (numbers : List ℕ) → each_number parts ≡ Some numbers
    → list_all (λ n. nat_lt n (2 ^ 32)) numbers ≡ true → filter_map word_of parts ≡ numbers
filter_map-word_of [] numbers e small = cc
filter_map-word_of (part ∷ parts) numbers e small =
    let s = splits (number_of part) (each_number parts) numbers e in
    let fit = and_parts (nat_lt s.first (2 ^ 32)) (list_all (λ n. nat_lt n (2 ^ 32)) s.others)
    (rw (← s.same) at small) in
    rw (s.is_first, fit.0, filter_map-word_of parts s.others s.are_others fit.1) s.same

-- numbers that break no rule at a parameter
pub record Fitting (param : Param) (numbers : List ℕ) : Type 0 where
  pub count : length numbers ≡ count_of param.form param.length
  pub within : list_all (λ word. nat_le word (greatest_of param.kind)) numbers ≡ true

pub Fitting-from_rule : (param : Param) (o : Option (List ℕ)) → rule_of_numbers param o ≡ None
    → (numbers : List ℕ) × (o ≡ Some numbers) × Fitting param numbers
Fitting-from_rule param None e = cc
Fitting-from_rule param (Some numbers) e =
    let both = both_hold _ _ e in
    let count = (Decides-eqb (length numbers) (count_of param.form param.length)).0 both.0 in
    (numbers, refl, record { count = count; within = both.1 })

greatest_of-small : (kind : Kind) → greatest_of kind < 2 ^ 32
greatest_of-small Boolean = omega arith
greatest_of-small _ = omega arith

-- what is within a kind fits a word
small_from_within : (most : ℕ) → most < 2 ^ 32 → (numbers : List ℕ)
    → list_all (λ word. nat_le word most) numbers ≡ true → list_all (λ n. nat_lt n (2 ^ 32)) numbers ≡ true
small_from_within most fits [] e = refl
small_from_within most fits (n ∷ numbers) e =
    let both = and_parts (nat_le n most) (list_all (λ word. nat_le word most) numbers) e in
    let first : nat_lt n (2 ^ 32) ≡ true = grind (arith, nat_tests, both.0) in
    rw first (small_from_within most fits numbers both.1)

pub words_are : (param : Param) (parts : List (List ℕ)) (numbers : List ℕ) → each_number parts ≡ Some numbers
    → Fitting param numbers → filter_map word_of parts ≡ numbers
words_are param parts numbers e h =
    filter_map-word_of parts numbers e
    (small_from_within (greatest_of param.kind) (greatest_of-small param.kind) numbers h.within)

pub single : (numbers : List ℕ) (d : ℕ) → length numbers ≡ 1 → get_or numbers 0 d ∷ [] ≡ numbers
single (n ∷ []) d e = refl
single _ d e = absurd (omega arith)

pub IsWithin-from_words : (param : Param) (form : Form) (arg : Arg) → param.form ≡ form
    → HasShape form param.length arg → list_all (λ word. nat_le word (greatest_of param.kind)) (words_of arg) ≡ true
    → IsWithin param arg
IsWithin-from_words param form arg e shape within = record {
  shape = rw e shape;
  values = (Decides-values param.kind (words_of arg)).0 within;
}

-- ---- one text after another
pub AreWithin-push : (params : List Param) (args : List Arg) (param : Param) (arg : Arg) → AreWithin params args
    → IsWithin param arg → AreWithin (params ++ param ∷ []) (args ++ arg ∷ [])
AreWithin-push [] [] param arg h k = (k, tt)
AreWithin-push (p ∷ params) (a ∷ args) param arg h k = (h.0, AreWithin-push params args param arg h.1 k)
AreWithin-push _ _ param arg h k = absurd h

module _ {A B : Type 0} (rule : Param → B → Option ArgumentRule) (view : A → B) where
  fault_from-map : (at : ℕ) (params : List Param) (args : List A)
      → fault_from rule at params (map view args) ≡ fault_from (λ p a. rule p (view a)) at params args
  fault_from-map at [] args = refl
  fault_from-map at (p ∷ params) [] = refl
  fault_from-map at (p ∷ params) (a ∷ args) = ap (fault_at at (rule p (view a))) (fault_from-map (at + 1) params args)

  pub fault_by-map : (params : List Param) (args : List A)
      → fault_by rule params (map view args) ≡ fault_by (λ p a. rule p (view a)) params args
  fault_by-map params args =
      ap (λ n. if n == length params then fault_from rule 0 params (map view args) else Some count_fault)
      (length-map args view)
      ∙ ap (λ f. if length args == length params then f else Some count_fault) (fault_from-map 0 params args)

pub word_below : (part : List ℕ) (n : ℕ) → Some n ≡ capped (number_of part) → n < 2 ^ 32 → Some n ≡ word_of part
word_below part n e small =
    let below : nat_lt n (2 ^ 32) ≡ true = grind (arith, nat_tests) in
    ap (λ b. if b then Some n else None) (sym below) ∙ ap fitting e ∙ fitting-capped (number_of part)

array_within : (param : Param) (form : Form) (words numbers : List ℕ) → param.form ≡ form
    → (length words ≡ count_of form param.length → HasShape form param.length (Array words)) → words ≡ numbers
    → Fitting param numbers → IsWithin param (Array words)
array_within param form words numbers e shape same h =
    IsWithin-from_words param form (Array words) e
    (shape (ap length same ∙ h.count ∙ ap (λ f. count_of f param.length) e))
    (rw same h.within)

pub IsWithin-array : (param : Param) (words numbers : List ℕ)
    → (param.form ≡ FixedArray) ⊎ (param.form ≡ MutableArray) → words ≡ numbers → Fitting param numbers
    → IsWithin param (Array words)
IsWithin-array param words numbers (inl e) same h = array_within param FixedArray words numbers e (λ l. l) same h
IsWithin-array param words numbers (inr e) same h = array_within param MutableArray words numbers e (λ l. l) same h

pub IsWithin-word : (param : Param) (word : ℕ) (numbers : List ℕ) → param.form ≡ SingleWord → word ∷ [] ≡ numbers
    → Fitting param numbers → IsWithin param (Word word)
IsWithin-word param word numbers e same h =
    IsWithin-from_words param SingleWord (Word word) e tt
    (ap (list_all (λ word. nat_le word (greatest_of param.kind))) same ∙ h.within)

pub map-more : {X Y Z : Type 0} (f : X → Z) (g : Y → Z) (xs : List X) (x : X) (ys : List Y) (i : ℕ) (d : Y)
    → i < length ys → map f xs ≡ map g (take i ys) → f x ≡ g (get_or ys i d)
    → map f (xs ++ x ∷ []) ≡ map g (take (i + 1) ys)
map-more f g xs x ys i d h e is =
    map-append f xs (x ∷ []) ∙ ap (λ l. l ++ f x ∷ []) e ∙ ap (λ z. map g (take i ys) ++ z ∷ []) is
    ∙ sym (map-append g (take i ys) (get_or ys i d ∷ [])) ∙ ap (map g) (sym (take_more ys i d h))

pub AreWithin-more : (params : List Param) (args : List Arg) (i : ℕ) (param : Param) (arg : Arg) → i < length params
    → AreWithin (take i params) args → IsWithin (get_or params i param) arg
    → AreWithin (take (i + 1) params) (args ++ arg ∷ [])
AreWithin-more params args i param arg h k within =
    rw (take_more params i param h) (AreWithin-push (take i params) args (get_or params i param) arg k within)

-- ---- what an answer says of the first fault
pub fault_iff-ok : {T : Type 0} (answer : Result T ReadError) (x : T) (found : Option ArgumentFault)
    (fault : ArgumentFault) → answer ≡ Ok x → found ≡ None → (answer ≡ Err (Argument fault)) ↔ (found ≡ Some fault)
fault_iff-ok answer x found fault ok none = (λ e. cc, λ e. cc)

pub fault_iff-memory : {T : Type 0} (answer : Result T ReadError) (found : Option ArgumentFault)
    (fault : ArgumentFault) → answer ≡ Err Memory → found ≡ None
    → (answer ≡ Err (Argument fault)) ↔ (found ≡ Some fault)
fault_iff-memory answer found fault memory none = (λ e. cc, λ e. cc)

pub fault_iff-fault : {T : Type 0} (answer : Result T ReadError) (given : ArgumentFault)
    (found : Option ArgumentFault) (fault : ArgumentFault) → answer ≡ Err (Argument given) → found ≡ Some given
    → (answer ≡ Err (Argument fault)) ↔ (found ≡ Some fault)
fault_iff-fault answer given found fault is some = (λ e. cc, λ e. cc)
