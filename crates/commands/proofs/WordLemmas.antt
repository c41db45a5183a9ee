-- What words spell, and their first fault, from the answers of those who read them.
use Rattle.std.proofs.Common.{◌≡◌, ◌≢◌, ℕ, ◌+◌, ◌*◌, cond, List, length, map}
use Rattle.std.proofs.Common.{take, drop, Option, Some, None, Result, Err, refl, sym, ap, ◌∙◌, subst, arith}
use Rattle.std.specs.Option.{option_map}
use Rattle.std.proofs.lemmas.Bool.Decides.{Decides-eqb}
use Rattle.std.proofs.lemmas.List.{take-map, drop-map, length-map}
use Rattle.std.proofs.lemmas.Simd.{map-map}
use Rattle.commands.specs.Below.{AreWithin, Arg, Argument, ArgumentFault, count_fault, fault_of_given, fault_of_texts}
use Rattle.commands.specs.Below.{first_of, Memory, numbers_given, numbers_of, Param, RunFault, shifted, Stop, Stopped}
use Rattle.commands.specs.Below.{words_of}
use Rattle.commands.specs.Words.{AreSpelled, AreGiven, IsFaultOfWords, fault_of_both}

-- a fault that reading answers is out of memory or the first fault
pub fault_of_words : {A : Type 0} (first : Option ArgumentFault) (why : RunFault) (answer : Result A RunFault)
    → answer ≡ Err why
    → ((fault : ArgumentFault) → ((answer ≡ Err (Argument fault.rule fault.index)) → first ≡ Some fault)
    × (first ≡ Some fault → answer ≡ Err (Argument fault.rule fault.index)))
    → ((stop : Stop) → answer ≢ Err (Stopped stop)) → IsFaultOfWords first why
fault_of_words first (Argument rule index) answer is faults stops =
    (faults (record { rule = rule; index = index })).0 is
fault_of_words first Memory answer is faults stops = tt
fault_of_words first (Stopped stop) answer is faults stops = absurd (stops stop is)

-- ---- two lists of words

counted : (params : List Param) (words : List (List ℕ)) → length words ≡ 2 * length params
    → fault_of_both params words ≡ first_of (fault_of_texts params (take (length params) words))
    (option_map (shifted (length params)) (fault_of_texts params (drop (length params) words)))
counted params words many =
    ap
    (λ b. cond b (first_of (fault_of_texts params (take (length params) words))
    (option_map (shifted (length params)) (fault_of_texts params (drop (length params) words))))
    (Some count_fault))
    ((Decides-eqb (length words) (2 * length params)).1 many)

in_first : (first later : Option ArgumentFault) (why : RunFault) → IsFaultOfWords first why
    → IsFaultOfWords (first_of first later) why
in_first first later (Argument rule index) h = rw h refl
in_first first later Memory h = tt
in_first first later (Stopped stop) h = h

pub fault_of_first : (params : List Param) (words : List (List ℕ)) (why : RunFault) → length words ≡ 2 * length params
    → IsFaultOfWords (fault_of_texts params (take (length params) words)) why
    → IsFaultOfWords (fault_of_both params words) why
fault_of_first params words why many h =
    subst (λ first. IsFaultOfWords first why) (sym (counted params words many)) (in_first _ _ why h)

pub fault_of_second : (params : List Param) (words : List (List ℕ)) (why : RunFault)
    → length words ≡ 2 * length params → fault_of_texts params (take (length params) words) ≡ None
    → IsFaultOfWords (option_map (shifted (length params)) (fault_of_texts params (drop (length params) words))) why
    → IsFaultOfWords (fault_of_both params words) why
fault_of_second params words why many none h =
    let later = option_map (shifted (length params)) (fault_of_texts params (drop (length params) words)) in
    let is : fault_of_both params words ≡ later = counted params words many
    ∙ ap (λ first. first_of first later) none in
    subst (λ first. IsFaultOfWords first why) (sym is) h

-- the words of the first list, those of the second, and how many they are together
pub first_words : {A : Type 0} (bytes : A → List ℕ) (count : ℕ) (words first : List A) → first ≡ take count words
    → map bytes first ≡ take count (map bytes words)
first_words bytes count words first is = ap (map bytes) is ∙ sym (take-map bytes count words)

pub second_words : {A : Type 0} (bytes : A → List ℕ) (count : ℕ) (words second : List A) → second ≡ drop count words
    → map bytes second ≡ drop count (map bytes words)
second_words bytes count words second is = ap (map bytes) is ∙ sym (drop-map bytes count words)

pub count_of_words : {A : Type 0} (bytes : A → List ℕ) (count : ℕ) (words second : List A) → length second ≡ count
    → length second + count ≡ length words
    → length (map bytes words) ≡ 2 * count
count_of_words bytes count words second is all = omega (arith, length-map words bytes)

-- arguments that were read for parameters, from words in another form
pub spelled_from : {A : Type 0} {params others : List Param} {args : List Arg} (texts : List A) (bytes : A → List ℕ)
    → params ≡ others → AreWithin params args
    → map (λ arg. Some (words_of arg)) args ≡ map (λ text. numbers_of (bytes text)) texts
    → AreSpelled others (map bytes texts) args
spelled_from {args = args} texts bytes same within found = record {
  within = subst (λ (ps : List Param). AreWithin ps args) same within;
  numbers = found ∙ sym (map-map numbers_of bytes texts);
}

-- what was read of given values
pub given_from : {A : Type 0} {params others : List Param} {given : List (Option Arg)} (texts : List A) (bytes : A
    → List ℕ) → params ≡ others → fault_of_given params given ≡ None
    → map (λ one. Some (option_map words_of one)) given ≡ map (λ text. numbers_given (bytes text)) texts
    → AreGiven others (map bytes texts) given
given_from {given = given} texts bytes same faultless found = record {
  faultless = subst (λ (ps : List Param). fault_of_given ps given ≡ None) same faultless;
  numbers = found ∙ sym (map-map numbers_given bytes texts);
}
