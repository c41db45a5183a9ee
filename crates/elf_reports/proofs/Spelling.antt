-- What is told first of the words of a command.
use Rattle.std.specs.Prelude.{◌++◌, IfErr, if◌then◌else◌}
use Rattle.std.specs.Option.{option_or}
use Rattle.std.specs.Result.{IsErrAnd}
use Rattle.std.proofs.Common.{◌≡◌, ◌<◌, ◌≤◌, ◌+◌, ◌∙◌, [], ◌∷◌, ℕ, List, ap, ap₂, Bool, drop, Err, false, get_or, length}
use Rattle.std.proofs.Common.{map, None, Ok, Option, refl, Result, Some, sym, take, true}
use Rattle.std.specs.Borrow.{Bor}
use Rattle.std.proofs.lemmas.List.{at_drop_all, drop_more, map-append, map_more}
use Rattle.elf_reports.specs.Asking.{texts}
use Rattle.elf_reports.specs.Below.{each_from, first_unmet, IsTold, Need, StartFault, Unmet}
use Rattle.elf_runs.specs.declared.fault.StartFault.TheVariants.{Memory, Refused}

one_before : (holds : Bool) (unmet : Unmet) (all front back : Option Unmet) → all ≡ option_or front back
    → (if holds then all else Some unmet) ≡ option_or (if holds then front else Some unmet) back
one_before true unmet all front back is = is
one_before false unmet all front back is = refl

-- of needs that are joined, those in front are told first
pub joined : (front back : List Need) → first_unmet (front ++ back) ≡ option_or (first_unmet front) (first_unmet back)
joined [] back = refl
joined (one ∷ others) back =
    one_before one.holds (record { rule = one.rule; part = one.part }) (first_unmet (others ++ back))
    (first_unmet others) (first_unmet back) (joined others back)

-- what is told of one word is told of all
pub told_at : (needs : ℕ → List ℕ → List Need) (words : List (Bor (List ℕ))) (k : ℕ) (other : Bor (List ℕ))
    (unmet : Unmet) → k < length words → first_unmet (each_from needs 0 (texts words))
    ≡ first_unmet (each_from needs k (texts (drop k words)))
    → first_unmet (needs k (get_or words k other).now) ≡ Some unmet
    → first_unmet (each_from needs 0 (texts words)) ≡ Some unmet
told_at needs words k other unmet lt before told =
    let first = needs k (get_or words k other).now in
    let rest = each_from needs (k + 1) (texts (drop (k + 1) words)) in
    before
    ∙ ap (λ (ws : List (Bor (List ℕ))). first_unmet (each_from needs k (texts ws))) (drop_more words k other lt)
    ∙ joined first rest
    ∙ ap (λ (o : Option Unmet). option_or o (first_unmet rest)) told

-- a word of which nothing is told leaves it to those behind it
pub none_told_at : (needs : ℕ → List ℕ → List Need) (words : List (Bor (List ℕ))) (k : ℕ) (other : Bor (List ℕ))
    → k < length words → first_unmet (each_from needs 0 (texts words))
    ≡ first_unmet (each_from needs k (texts (drop k words)))
    → first_unmet (needs k (get_or words k other).now) ≡ None
    → first_unmet (each_from needs 0 (texts words)) ≡ first_unmet (each_from needs (k + 1) (texts (drop (k + 1) words)))
none_told_at needs words k other lt before none =
    let first = needs k (get_or words k other).now in
    let rest = each_from needs (k + 1) (texts (drop (k + 1) words)) in
    before
    ∙ ap (λ (ws : List (Bor (List ℕ))). first_unmet (each_from needs k (texts ws))) (drop_more words k other lt)
    ∙ joined first rest
    ∙ ap (λ (o : Option Unmet). option_or o (first_unmet rest)) none

-- and where no word is left, nothing is told of all
pub none_told : (needs : ℕ → List ℕ → List Need) (words : List (Bor (List ℕ))) (k : ℕ) → length words ≤ k
    → first_unmet (each_from needs 0 (texts words)) ≡ first_unmet (each_from needs k (texts (drop k words)))
    → first_unmet (each_from needs 0 (texts words)) ≡ None
none_told needs words k all before =
    before ∙ at_drop_all (λ rest. first_unmet (each_from needs k (texts rest))) words k all

-- what one word more asks
pub asked_more : {A B : Type 0} (asked : A → B) (asks : List ℕ → B) (words : List (Bor (List ℕ))) (k : ℕ)
    (other : Bor (List ℕ)) (one : A) (old new : List A) → k < length words
    → map asked old ≡ map asks (texts (take k words)) → asked one ≡ asks (get_or words k other).now
    → new ≡ old ++ one ∷ [] → map asked new ≡ map asks (texts (take (k + 1) words))
asked_more asked asks words k other one old new lt before is pushed =
    let texts_more = map_more (λ (word : Bor (List ℕ)). word.now) words k other lt in
    ap (map asked) pushed
    ∙ map-append asked old (one ∷ [])
    ∙ ap₂ (λ front last. front ++ last ∷ []) before is
    ∙ sym (ap (map asks) texts_more ∙ map-append asks (texts (take k words)) ((get_or words k other).now ∷ []))

-- and a fault that is passed on is told of the whole
pub told_on : {A : Type 0} (result : Result A StartFault) (fault : StartFault) (part whole : List Need)
    → IsErrAnd result (λ e. e ≡ fault) → IsTold fault part
    → ((unmet : Unmet) → first_unmet part ≡ Some unmet → first_unmet whole ≡ Some unmet)
    → IfErr result (λ e. IsTold e whole)
told_on (Ok x) fault part whole is told from = absurd is
told_on (Err e) (Refused unmet) part whole is told from = rw is (from unmet told)
told_on (Err e) Memory part whole is told from = rw is tt
