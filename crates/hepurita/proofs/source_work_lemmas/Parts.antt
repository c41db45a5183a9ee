-- The parts of the export's source have the work of what they became in its one body.
use Rattle.std.proofs.Common.{◌≡◌, ℕ, suc, ◌+◌, List, [], ◌∷◌, Option, None, Some, refl, sym, ap, ap₂, ◌∙◌, arith}
use Rattle.hepurita.specs.Below.{block, BlockTree, body_work, Bounds, bounds_after, bounds_after_all}
use Rattle.hepurita.specs.Below.{chain, first_of, FlatBlock, FlatVariable, Label, length_of, Numbers, place_of}
use Rattle.hepurita.specs.Below.{ProcedureTree, return_place, return_shares, ReturnTree, Scope, Share, statement}
use Rattle.hepurita.specs.Below.{first, nothing, stretch_shares, stretches, sum_of, value_of, value_shares}
use Rattle.inline.specs.Flat as flat
use Rattle.intervals.specs.Work as body
use Rattle.language.specs.WellTyped.{AreWellTyped, no_statement, one_more}
use Rattle.language.proofs.ShareLemmas.{return_together, sum_append}
use Rattle.hepurita.proofs.source_work_lemmas.Below.{AllCounted, callable_after, IsAt, IsWithin, same_result, Stand}
use Rattle.hepurita.proofs.source_work_lemmas.Sums.{statement_summed, Summed}
use Rattle.hepurita.proofs.source_work_lemmas.Walked.{body_walked}
use Rattle.hepurita.specs.source_work.SourceWork.{behind, block_work, export_start, export_variables, Here}
use Rattle.hepurita.specs.source_work.SourceWork.{numberings, source_work, statement_shares, work_shares, Works}
use Rattle.hepurita.specs.source_work.SourceWork.{works_of}

one_longer : (n : ℕ) → 1 + n ≡ suc n
one_longer n = omega arith

taken : (a b : FlatBlock) → first_of (length_of a) (chain a b) ≡ a
taken flat.nothing b = refl
taken (flat.first s a) b = ap (λ n. first_of n (chain (flat.first s a) b)) (one_longer (length_of a))
    ∙ ap (flat.first s) (taken a b)

left_over : (a b : FlatBlock) → body.behind (length_of a) (chain a b) ≡ b
left_over flat.nothing b = refl
left_over (flat.first s a) b = ap (λ n. body.behind n (chain (flat.first s a) b)) (one_longer (length_of a))
    ∙ left_over a b

-- a result, with the place of its `return`
pub value_shared : (names : Numbers) (returned : Option ReturnTree)
    → return_shares returned ≡ value_shares (return_place returned) (value_of names returned)
value_shared names None = refl
value_shared names (Some r) =
    ap (λ (n : ℕ). record { place = r.place; count = n } ∷ []) (sym (same_result names (Some r)))

module _ (declared : List FlatVariable) (iterations : List ℕ) where
  -- iterations that are counted for a body are counted for its parts
  counted_parts : (a b : FlatBlock) (bounds : Bounds) → AllCounted declared iterations bounds (chain a b)
      → AllCounted declared iterations bounds a × AllCounted declared iterations (bounds_after_all declared bounds a) b
  counted_parts flat.nothing b bounds all = (tt, all)
  counted_parts (flat.first s a) b bounds all =
      let later = counted_parts a b (bounds_after declared bounds s) all.1 in
      ((all.0, later.0), later.1)

  module _ (earlier : List ProcedureTree) (at : Scope) (stand : Stand (Summed declared) earlier at) where
    pub parts_summed : {scope : Scope} {control : Label} {b : BlockTree} → AreWellTyped earlier scope control b
        → IsWithin earlier at scope → (h : Here)
        → AllCounted declared iterations h.bounds (block (numberings (works_of declared earlier)) h.names h.next b)
        → statement_shares declared (works_of declared earlier) h b
        ≡ stretch_shares iterations (stretches (numberings (works_of declared earlier)) h.names h.next b)
        (block (numberings (works_of declared earlier)) h.names h.next b)
    parts_summed no_statement inside h all = refl
    parts_summed (one_more {statement = s} {rest = rest} one others) inside h all =
        let known = numberings (works_of declared earlier) in
        let next = behind declared (works_of declared earlier) h s in
        let own = statement known h.names h.next s in
        let left = block known next.names next.next rest in
        let parts = counted_parts own left h.bounds all in
        let work = ap (body_work iterations) (taken own left)
        ∙ (body_walked declared iterations own h.bounds parts.0
        ∙ statement_summed declared earlier at stand one inside h) in
        let later = parts_summed others (callable_after earlier (IsAt at) one inside) next parts.1
        ∙ ap (stretch_shares iterations (stretches known next.names next.next rest)) (sym (left_over own left)) in
        ap₂ (λ (n : ℕ) (ps : List Share). record { place = place_of s; count = n } ∷ ps) (sym work) later

-- The parts make the whole.

together : (declared : List FlatVariable) (works : Works) (b : BlockTree) (h : Here)
    → sum_of (statement_shares declared works h b) ≡ block_work declared works h b
together declared works nothing h = refl
together declared works (first s rest) h = omega (arith, together declared works rest (behind declared works h s))

pub parts_make_the_work : (before : List ProcedureTree) (p : ProcedureTree)
    → sum_of (work_shares before p) ≡ source_work before p
parts_make_the_work before p =
    let declared = export_variables before p in
    let works = works_of declared before in
    let start = export_start before p in
    let sum = sum_append (statement_shares declared works start p.body) (return_shares p.returned) in
    omega (arith, sum, together declared works p.body start, return_together p.returned)
