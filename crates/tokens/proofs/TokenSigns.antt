-- The first sign of the table that a text begins with is the longest.
use Rattle.std.proofs.Common.{◌≡◌, ℕ, zero, suc, ◌≤◌, Bool, true, false, cond, List, [], ◌∷◌, ◌++◌, length, drop}
use Rattle.std.proofs.Common.{Some, None, refl, sym, ap, ◌∙◌, subst, arith, leb-true, inl, inr, ⊎_elim, ◌⊎◌}
use Rattle.std.specs.Prelude.{nat_eq, nat_le, ◌&&◌}
use Rattle.std.specs.List.{find, position_or_len, slice_get, starts_with}
use Rattle.std.specs.Str.{bytes_eq}
use Rattle.std.proofs.lemmas.Slice.Eq.{starts_is}
use Rattle.std.proofs.lemmas.Bool.{cases_Bool}
use Rattle.std.proofs.lemmas.Bool.Decides.{Decides-eqb}
use Rattle.std.proofs.lemmas.Option.{same_Some}
use Rattle.tokens.specs.declared.token.Sign.{Sign}
use Rattle.tokens.specs.declared.token.Sign.TheVariants.{RotateLeft}
use Rattle.tokens.specs.declared.lexer.sign.TheConstants.{SIGNS}
use Rattle.tokens.specs.Spelling.{sign_text}
use Rattle.tokens.proofs.TokenRuns.{and_true}

-- the lengths do not rise along the table, and none is above `most`
abbrev falls : ℕ → List Sign → Bool
falls most [] = true
falls most (s ∷ signs) = nat_le (length (sign_text s)) most && falls (length (sign_text s)) signs

falls_below : (signs : List Sign) (most : ℕ) → falls most signs ≡ true → (i : ℕ) (mark : Sign)
    → slice_get signs i ≡ Some mark → length (sign_text mark) ≤ most
falls_below [] most f i mark e = absurd (cc)
falls_below (s ∷ signs) most f zero mark e =
    let same : s ≡ mark = cc in
    subst (λ m. length (sign_text m) ≤ most) same (leb-true _ _ (and_true _ _ f).0)
falls_below (s ∷ signs) most f (suc i) mark e =
    let both = and_true (nat_le (length (sign_text s)) most) _ f in
    let first : length (sign_text s) ≤ most = leb-true _ _ both.0 in
    let later : length (sign_text mark) ≤ length (sign_text s) = falls_below signs _ both.1 i mark e in
    omega arith

module _ {A : Type 0} (test : A → Bool) where
  find_head : (s : A) (signs : List A) (found : A) → find test (s ∷ signs) ≡ Some found
      → ((test s ≡ true) × (s ≡ found)) ⊎ ((test s ≡ false) × (find test signs ≡ Some found))
  find_head s signs found e = elim (cases_Bool (test s)) [
    | inl holds ↦ inl (holds, same_Some _ _ (rw holds at e))
    | inr fails ↦ inr (fails, rw fails at e)
  ]

  pub find_passes : (signs : List A) (found : A) → find test signs ≡ Some found → test found ≡ true
  find_passes [] found e = absurd (cc)
  find_passes (s ∷ signs) found e =
      ⊎_elim (λ h. sym (ap test h.1) ∙ h.0) (λ h. find_passes signs found h.1) (find_head s signs found e)

module _ (test : Sign → Bool) where
  find_none : (signs : List Sign) → find test signs ≡ None → (i : ℕ) (mark : Sign) → slice_get signs i ≡ Some mark
      → test mark ≡ false
  find_none [] e i mark at = absurd (cc)
  find_none (s ∷ signs) e i mark at = by (test s) refl i at (λ rest j found. find_none signs rest j mark found)
    where
      by : (v : Bool) → test s ≡ v → (j : ℕ) → slice_get (s ∷ signs) j ≡ Some mark
          → (find test signs ≡ None → (k : ℕ) → slice_get signs k ≡ Some mark → test mark ≡ false) → test mark ≡ false
      by true v j found later =
          absurd (let bad : Some s ≡ None = sym (ap (λ b. cond b (Some s) (find test signs)) v) ∙ e in cc)
      by false v zero found later = let same : s ≡ mark = cc in sym (ap test same) ∙ v
      by false v (suc j) found later = later (sym (ap (λ b. cond b (Some s) (find test signs)) v) ∙ e) j found

  find_longest : (signs : List Sign) (most : ℕ) → falls most signs ≡ true → (found : Sign)
      → find test signs ≡ Some found → (i : ℕ) (mark : Sign) → slice_get signs i ≡ Some mark → test mark ≡ true
      → length (sign_text mark) ≤ length (sign_text found)
  find_longest [] most f found e i mark at passes = absurd (cc)
  find_longest (s ∷ signs) most f found e zero mark at passes =
      let same : s ≡ mark = cc in
      ⊎_elim
      (λ h. let is : mark ≡ found = sym same ∙ h.1 in
      subst (λ m. length (sign_text mark) ≤ length (sign_text m)) is (omega arith))
      (λ h. absurd (let bad : true ≡ false = sym passes ∙ sym (ap test same) ∙ h.0 in cc))
      (find_head test s signs found e)
  find_longest (s ∷ signs) most f found e (suc i) mark at passes =
      let both = and_true (nat_le (length (sign_text s)) most) _ f in
      ⊎_elim
      (λ h. subst (λ m. length (sign_text mark) ≤ length (sign_text m)) h.1 (falls_below signs _ both.1 i mark at))
      (λ h. find_longest signs _ both.1 found h.1 i mark at passes)
      (find_head test s signs found e)

-- where a sign stands in the table
abbrev rank : Sign → ℕ
rank mark = position_or_len (λ s. bytes_eq (sign_text s) (sign_text mark)) SIGNS

in_table : (mark : Sign) → slice_get SIGNS (rank mark) ≡ Some mark
in_table mark = elim mark as (λ m. slice_get SIGNS (rank m) ≡ Some m) [ RotateLeft ↦ refl | _ ↦ refl ]

table_falls : falls 3 SIGNS ≡ true
table_falls = refl

-- the test of a text's front
abbrev pub begins : List ℕ → Sign → Bool
begins text mark = starts_with nat_eq text (sign_text mark)

pub begins_true : (text others : List ℕ) (mark : Sign) → text ≡ sign_text mark ++ others → begins text mark ≡ true
begins_true text others mark e = (starts_is Decides-eqb text (sign_text mark) (begins text mark) refl).1 others e

pub sign_parts : (text : List ℕ) (found : Sign) → find (begins text) SIGNS ≡ Some found
    → text ≡ sign_text found ++ drop (length (sign_text found)) text
sign_parts text found e = (starts_is Decides-eqb text (sign_text found) (begins text found) refl).0
    (find_passes (begins text) SIGNS found e)

pub no_sign : (text others : List ℕ) (mark : Sign) → find (begins text) SIGNS ≡ None
    → text ≡ sign_text mark ++ others → ⊥
no_sign text others mark e parts =
    let bad : true ≡ false = sym (begins_true text others mark parts)
    ∙ find_none (begins text) SIGNS e (rank mark) mark (in_table mark) in
    cc

pub sign_longest : (text others : List ℕ) (found mark : Sign) → find (begins text) SIGNS ≡ Some found
    → text ≡ sign_text mark ++ others → length (sign_text mark) ≤ length (sign_text found)
sign_longest text others found mark e parts =
    find_longest (begins text) SIGNS 3 table_falls found e (rank mark) mark (in_table mark)
    (begins_true text others mark parts)
