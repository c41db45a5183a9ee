-- What is kept while parts are looked at in their order is the first of those that have most.
use Rattle.std.proofs.Common.{◌≡◌, ◌<◌, ◌≤◌, nat_lt, Bool, true, false, cond, fold, List, [], ◌∷◌, ◌++◌, Option, None}
use Rattle.std.proofs.Common.{Some, refl, sym, ap, subst, ◌∙◌, arith}
use Rattle.std.proofs.lemmas.Bool.Decides.{nat_tests}
use Rattle.std.proofs.lemmas.List.{append-nil, append_assoc}
use Rattle.std.specs.List.{AllByRecursion}
use Rattle.std.proofs.lemmas.Option.{same_Some, none-some}
use Rattle.language.specs.Shares.{IsFirstOfGreatest, larger, largest}
use Rattle.language.specs.declared.why.Share.{Share}

module _ {X : Type 0} (P Q : X → Type 0) where
  all_append : (xs ys : List X) → AllByRecursion P xs → AllByRecursion P ys → AllByRecursion P (xs ++ ys)
  all_append [] ys one other = other
  all_append (x ∷ xs) ys one other = (one.0, all_append xs ys one.1 other)

  all_weaker : ((x : X) → P x → Q x) → (xs : List X) → AllByRecursion P xs → AllByRecursion Q xs
  all_weaker weaker [] all = tt
  all_weaker weaker (x ∷ xs) all = (weaker x all.0, all_weaker weaker xs all.1)

abbrev Below : Share → Share → Type 0
Below p q = q.count < p.count

abbrev NotAbove : Share → Share → Type 0
NotAbove p q = q.count ≤ p.count

-- one part more, which has more or does not
one_more : (seen : List Share) (p q : Share) (more : Bool) → nat_lt p.count q.count ≡ more → IsFirstOfGreatest seen p
    → IsFirstOfGreatest (seen ++ q ∷ []) (cond more q p)
one_more seen p q true is found =
    let above : p.count < q.count = grind (arith, nat_tests) in
    record {
      before = seen;
      behind = [];
      split = refl;
      first = subst (AllByRecursion (Below q)) (sym found.split)
          (all_append (Below q) (Below q) found.before (p ∷ found.behind)
          (all_weaker (Below p) (Below q) (λ x less. omega (arith, less, above)) found.before found.first) (
            above,
            all_weaker (NotAbove p) (Below q) (λ x less. omega (arith, less, above)) found.behind
                found.greatest,
          ));
      greatest = tt;
    }
one_more seen p q false is found =
    let below : q.count ≤ p.count = grind (arith, nat_tests) in
    record {
      before = found.before;
      behind = found.behind ++ q ∷ [];
      split = ap (λ (ps : List Share). ps ++ q ∷ []) found.split
          ∙ append_assoc found.before (p ∷ found.behind) (q ∷ []);
      first = found.first;
      greatest = all_append (NotAbove p) (NotAbove p) found.behind (q ∷ []) found.greatest (below, tt);
    }

kept : (more : Bool) (p q : Share) → cond more (Some q) (Some p) ≡ Some (cond more q p)
kept true p q = refl
kept false p q = refl

-- so it is of all
still_first : (seen left : List Share) (p r : Share) → IsFirstOfGreatest seen p → fold larger (Some p) left ≡ Some r
    → IsFirstOfGreatest (seen ++ left) r
still_first seen [] p r found is =
    subst (IsFirstOfGreatest (seen ++ [])) (same_Some p r is)
    (subst (λ (ps : List Share). IsFirstOfGreatest ps p) (sym (append-nil seen)) found)
still_first seen (q ∷ left) p r found is =
    let more = nat_lt p.count q.count in
    subst (λ (ps : List Share). IsFirstOfGreatest ps r) (append_assoc seen (q ∷ []) left)
    (still_first (seen ++ q ∷ []) left (cond more q p) r (one_more seen p q more refl found)
    (ap (λ (o : Option Share). fold larger o left) (sym (kept more p q)) ∙ is))

never_none : (left : List Share) (p : Share) → fold larger (Some p) left ≡ None → ⊥
never_none [] p is = none-some p (sym is)
never_none (q ∷ left) p is =
    let more = nat_lt p.count q.count in
    never_none left (cond more q p) (ap (λ (o : Option Share). fold larger o left) (sym (kept more p q)) ∙ is)

pub some_first : (ps : List Share) (p : Share) → largest ps ≡ Some p → IsFirstOfGreatest ps p
some_first [] p is = absurd (none-some p is)
some_first (q ∷ ps) p is =
    still_first (q ∷ []) ps q p (record { before = []; behind = []; split = refl; first = tt; greatest = tt }) is

pub none_empty : (ps : List Share) → largest ps ≡ None → ps ≡ []
none_empty [] is = refl
none_empty (q ∷ ps) is = absurd (never_none ps q is)
