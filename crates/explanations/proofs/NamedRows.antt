-- What is found among rows that have the names of their rules has the name of its rule.
use Rattle.std.proofs.Common.{◌≡◌, ℕ, zero, suc, ◌<◌, Bool, true, false, not, ◌&&◌, ◌||◌, cond, List, [], ◌∷◌, get_or, length}
use Rattle.std.proofs.Common.{Option, None, Some, IfSome, refl, sym, subst, true≢false, arith}
use Rattle.std.proofs.lemmas.Slice.Eq.{bytes_eq-Decides}
use Rattle.std.specs.List.{find, list_all}
use Rattle.std.specs.Option.{option_or}
use Rattle.std.specs.Str.{bytes_eq}
use Rattle.explanations.specs.Table.{HasItsName}
use Rattle.explanations.specs.private.Names.{have_names, rules, suits}
use Rattle.explanations.specs.declared.row.Explanation.{Explanation}
use Rattle.explanations.specs.Below.{code_of, name_of, OutOfMemory, rank_of, Rule}

both : (a b : Bool) → (a && b) ≡ true → (a ≡ true) × (b ≡ true)
both true b h = (refl, h)
both false b h = absurd (cc)

second : (a b : Bool) → (not a || b) ≡ true → a ≡ true → b ≡ true
second true b h is = h
second false b h is = absurd (true≢false (sym is))

-- a rule stands at its rank
at_rank : (rule : Rule) → get_or rules (rank_of rule) OutOfMemory ≡ rule
at_rank OutOfMemory = refl
at_rank _ = refl

within : (rule : Rule) → rank_of rule < length rules
within OutOfMemory = omega arith
within _ = omega arith

each : {A : Type 0} (test : A → Bool) (xs : List A) (n : ℕ) (d : A) → list_all test xs ≡ true → n < length xs
    → test (get_or xs n d) ≡ true
each test [] n d all less = absurd (omega arith)
each test (x ∷ xs) zero d all less = (both _ _ all).0
each test (x ∷ xs) (suc n) d all less = each test xs n d (both _ _ all).1 (omega arith)

of_rule : (test : Rule → Bool) → list_all test rules ≡ true → (rule : Rule) → test rule ≡ true
of_rule test all rule = subst (λ r. test r ≡ true) (at_rank rule) (each test rules (rank_of rule) OutOfMemory all (within rule))

has_its_name : (row : Explanation) → list_all (suits row) rules ≡ true → HasItsName row
has_its_name row all rule same =
    (bytes_eq-Decides row.name.now (name_of rule)).0
    (second _ _ (of_rule (suits row) all rule) ((bytes_eq-Decides row.code.now (code_of rule)).1 same))

found_named : (code : List ℕ) (rows : List Explanation) → have_names rows ≡ true
    → IfSome (find (λ row. bytes_eq row.code.now code) rows) HasItsName
found_named code [] all = tt
found_named code (row ∷ rows) all =
    let parts = both _ _ all in
    by (bytes_eq row.code.now code) (has_its_name row parts.0) (found_named code rows parts.1)
  where
    by : (b : Bool) → HasItsName row → IfSome (find (λ row. bytes_eq row.code.now code) rows) HasItsName
        → IfSome (cond b (Some row) (find (λ row. bytes_eq row.code.now code) rows)) HasItsName
    by true here later = here
    by false here later = later

pub name_found : (code : List ℕ) (rows : List Explanation) (found : Option Explanation)
    → found ≡ find (λ row. bytes_eq row.code.now code) rows → have_names rows ≡ true → IfSome found HasItsName
name_found code rows found is all = subst (λ o. IfSome o HasItsName) (sym is) (found_named code rows all)

-- what holds of each of two rows, where there is one, holds of the first
pub of_either : (P : Explanation → Type 0) (one other found : Option Explanation) → found ≡ option_or one other
    → IfSome one P → IfSome other P → IfSome found P
of_either P None other found is a b = subst (λ o. IfSome o P) (sym is) b
of_either P (Some row) other found is a b = subst (λ o. IfSome o P) (sym is) a
