-- What is found of a code in one of two groups of rows, or else in the other.
use Rattle.std.proofs.Common.{◌≡◌, ℕ, List, ◌++◌, Option, None, Some, refl, sym, ap, ◌∙◌}
use Rattle.std.specs.List.{find}
use Rattle.std.specs.Option.{option_map, option_or}
use Rattle.std.specs.Str.{bytes_eq}
use Rattle.std.proofs.lemmas.List.Folds.{find-append}
use Rattle.explanations.specs.Table.{HasItsName, Row, text_in}
use Rattle.explanations.specs.private.RowsFound.{IsRowOf}
use Rattle.explanations.specs.declared.row.Explanation.{Explanation}
use Rattle.explanations.proofs.NamedRows.{of_either}
use Rattle.explanations.proofs.OneOfGroups.{known_in_either}

abbrev rule_of : Explanation → List ℕ
rule_of row = row.rule.now

pub mapped_or : {A B : Type 0} (f : A → B) (one other : Option A)
    → option_map f (option_or one other) ≡ option_or (option_map f one) (option_map f other)
mapped_or f None other = refl
mapped_or f (Some x) other = refl

-- the text of two groups is that of one or else of the other
text_in_both : (code : List ℕ) (ones others : List Row)
    → text_in (ones ++ others) code ≡ option_or (text_in ones code) (text_in others code)
text_in_both code ones others =
    ap (option_map (λ (row : Row). row.1)) (find-append (λ (row : Row). bytes_eq row.0 code) ones others)
    ∙ mapped_or (λ (row : Row). row.1) (find (λ (row : Row). bytes_eq row.0 code) ones)
    (find (λ (row : Row). bytes_eq row.0 code) others)

in_both : (code : List ℕ) (ones others : List Row) (one other found : Option Explanation)
    → option_map rule_of one ≡ text_in ones code → option_map rule_of other ≡ text_in others code
    → found ≡ option_or one other → option_map rule_of found ≡ text_in (ones ++ others) code
in_both code ones others one other found is is' both =
    ap (option_map rule_of) both ∙ mapped_or rule_of one other ∙ ap (λ o. option_or o (option_map rule_of other)) is
    ∙ ap (λ o. option_or (text_in ones code) o) is' ∙ sym (text_in_both code ones others)

pub either : {codes codes' : List (List ℕ)} {texts texts' : List Row} {code : List ℕ} {one other found : Option Explanation}
    → IsRowOf codes texts code one → IsRowOf codes' texts' code other → found ≡ option_or one other
    → IsRowOf (codes ++ codes') (texts ++ texts') code found
either {codes} {codes'} {texts} {texts'} {code} {one} {other} {found} a b is = record {
  text = in_both code texts texts' one other found a.text b.text is;
  asked = of_either (λ row. row.code.now ≡ code) one other found is a.asked b.asked;
  named = of_either HasItsName one other found is a.named b.named;
  known = known_in_either code codes codes' one other found is a.known b.known;
}
