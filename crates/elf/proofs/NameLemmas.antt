-- Names among the strings, byte by byte.
use Rattle.std.proofs.Common.{◌≡◌, ◌≢◌, ℕ, ◌+◌, ◌<◌, ◌≤◌, ◌&&◌, ◌∙◌, Bool, true, false, List, [], ◌∷◌, ◌++◌, length}
use Rattle.std.proofs.Common.{take, drop, get_or, nat_eq, refl, ap, sym, arith, append_assoc, eq-eqb}
use Rattle.std.proofs.Math.ListN.{drop_of_length-le}
use Rattle.std.proofs.lemmas.Bool.{ne_eqb}
use Rattle.std.proofs.lemmas.Bool.Decides.{nat_tests}
use Rattle.std.proofs.lemmas.List.{append-nil, drop_more, take_more, take-append-drop}
use Rattle.std.specs.List.{starts_with}
use Rattle.elf.specs.Lookup.{up_to_zero}

pub named_on : (strings name : List ℕ) (i : ℕ) → i < length name → i < length strings
    → get_or strings i 0 ≡ get_or name i 0
    → starts_with nat_eq (drop i strings) (drop i name ++ 0 ∷ [])
    ≡ starts_with nat_eq (drop (i + 1) strings) (drop (i + 1) name ++ 0 ∷ [])
named_on strings name i ln ls h =
    let yes : nat_eq (get_or name i 0) (get_or strings i 0) ≡ true = eq-eqb _ _ (sym h) in
    rw (drop_more strings i 0 ls, drop_more name i 0 ln, yes) refl

pub named_off : (strings name : List ℕ) (i : ℕ) → i < length name → i < length strings
    → get_or strings i 0 ≢ get_or name i 0
    → starts_with nat_eq (drop i strings) (drop i name ++ 0 ∷ []) ≡ false
named_off strings name i ln ls h =
    let no : nat_eq (get_or name i 0) (get_or strings i 0) ≡ false = ne_eqb _ _ (λ e. h (sym e)) in
    rw (drop_more strings i 0 ls, drop_more name i 0 ln, no) refl

zero_first : (x : ℕ) (rest : List ℕ) → starts_with nat_eq (x ∷ rest) (0 ∷ []) ≡ nat_eq x 0
zero_first x rest = grind (arith, nat_tests)

pub named_end : (strings name : List ℕ) (i : ℕ) → length name ≤ i → i < length strings
    → starts_with nat_eq (drop i strings) (drop i name ++ 0 ∷ []) ≡ nat_eq (get_or strings i 0) 0
named_end strings name i le ls =
    rw (drop_more strings i 0 ls, drop_of_length-le name le) (zero_first (get_or strings i 0) (drop (i + 1) strings))

and_false : (b : Bool) → (b && false) ≡ false
and_false true = refl
and_false false = refl

pub too_short : (strings name : List ℕ) → length strings ≤ length name
    → starts_with nat_eq strings (name ++ 0 ∷ []) ≡ false
too_short [] [] h = refl
too_short [] (c ∷ name) h = refl
too_short (x ∷ strings) [] h = absurd (omega arith)
too_short (x ∷ strings) (c ∷ name) h =
    let less : length strings ≤ length name = omega arith in
    ap (λ b. nat_eq c x && b) (too_short strings name less) ∙ and_false (nat_eq c x)

pub zero_on : (strings : List ℕ) (i : ℕ) → i < length strings → get_or strings i 0 ≢ 0
    → take i strings ++ up_to_zero (drop i strings) ≡ take (i + 1) strings ++ up_to_zero (drop (i + 1) strings)
zero_on strings i lt h =
    let no : nat_eq (get_or strings i 0) 0 ≡ false = ne_eqb _ _ h in
    rw (drop_more strings i 0 lt, take_more strings i 0 lt, no, append_assoc) refl

pub zero_here : (strings : List ℕ) (i : ℕ) → i < length strings → get_or strings i 0 ≡ 0
    → take i strings ++ up_to_zero (drop i strings) ≡ take i strings
zero_here strings i lt h =
    let yes : nat_eq (get_or strings i 0) 0 ≡ true = eq-eqb _ _ h in
    rw (drop_more strings i 0 lt, yes) (append-nil (take i strings))

pub zero_done : (strings : List ℕ) (i : ℕ) → length strings ≤ i
    → take i strings ++ up_to_zero (drop i strings) ≡ strings
zero_done strings i le =
    let none = drop_of_length-le strings le in
    ap (λ rest. take i strings ++ up_to_zero rest) none
    ∙ ap (λ rest. take i strings ++ rest) (sym none) ∙ take-append-drop i strings
