-- What holds of weights however words are used: so there is one for each word.
use Rattle.std.proofs.Common.{◌≡◌, ℕ, zero, suc, ◌+◌, List, [], ◌∷◌, length, length-append, Option, None, Some, refl}
use Rattle.std.proofs.Common.{replicate, ap, ◌∙◌, arith}
use Rattle.branch_removal.specs.Straight as straight
use Rattle.codegen.proofs.Language.{StraightBlock, StraightProgram, StraightTree, TermTree, first, nothing}
use Rattle.codegen.proofs.Logic.{length-replicate, length-set}
use Rattle.codegen.specs.Below.{used, used_by, used_by_all, used_in, used_in_result, used_in_terms, weight_inside}
use Rattle.codegen.specs.Below.{weights_of}
use Rattle.codegen.specs.private.MirrorUses.{mirror_weights_from, mirror_weights_of, Uses, uses_of}
use Rattle.codegen.specs.private.Uses.{control_weights_of, controls_read_by, controls_read_by_all, used_within}
use Rattle.codegen.specs.private.Uses.{word_weights_of}
use Rattle.inline.specs.Flat as flat

pub used_length : (weight x : ℕ) (weights : List ℕ) → length (used weight x weights) ≡ length weights
used_length weight x weights = length-set weights x _

-- What each use of a word keeps, all uses keep.
module _ (P : List ℕ → Type 0) (kept : (n x : ℕ) (weights : List ℕ) → P weights → P (used n x weights)) where
  in_keeps : (n : ℕ) (e : TermTree) {weights : List ℕ} → P weights → P (used_in n e weights)
  in_keeps n (flat.number value kind) h = h
  in_keeps n (flat.truth value) h = h
  in_keeps n (flat.variable x) h = kept n x _ h
  in_keeps n (flat.prefix operator width e) h = in_keeps n e h
  in_keeps n (flat.binary place operator width left right) h = in_keeps n right (in_keeps n left h)
  in_keeps n (flat.rotate width e amount) h = in_keeps n e h
  in_keeps n (flat.convert kind e) h = in_keeps n e h
  in_keeps n (flat.select condition accepted otherwise) h =
      in_keeps n otherwise (in_keeps n accepted (in_keeps n condition h))
  in_keeps n (flat.element place x size index) h = in_keeps n index h

  terms_keep : (n : ℕ) (es : List TermTree) {weights : List ℕ} → P weights → P (used_in_terms n es weights)
  terms_keep n [] h = h
  terms_keep n (e ∷ es) h = terms_keep n es (in_keeps n e h)

  result_keeps : (value : Option TermTree) {weights : List ℕ} → P weights → P (used_in_result value weights)
  result_keeps None h = h
  result_keeps (Some value) h = in_keeps 1 value h

  mutual
    by_keeps : (n : ℕ) (s : StraightTree) {weights : List ℕ} → P weights → P (used_by n s weights)
    by_keeps n (straight.set within x value) h = kept n x _ (in_keeps n value h)
    by_keeps n (straight.array x size values) h = terms_keep n values h
    by_keeps n (straight.put within place x size index value) h = in_keeps n value (in_keeps n index h)
    by_keeps n (straight.take control within condition) h = in_keeps n condition h
    by_keeps n (straight.branch condition accepted otherwise) h =
        all_keep n otherwise (all_keep n accepted (in_keeps n condition h))
    by_keeps n (straight.repeats x low high body) h =
        all_keep (weight_inside n) body (kept (weight_inside n) x _ (in_keeps n high (in_keeps n low h)))

    all_keep : (n : ℕ) (b : StraightBlock) {weights : List ℕ} → P weights → P (used_by_all n b weights)
    all_keep n nothing h = h
    all_keep n (first s rest) h = all_keep n rest (by_keeps n s h)

  -- of control values too

  within_keeps : (n : ℕ) (within : Option ℕ) {weights : List ℕ} → P weights → P (used_within n within weights)
  within_keeps n None h = h
  within_keeps n (Some control) h = kept n control _ h

  mutual
    pub read_keeps : (n : ℕ) (s : StraightTree) {weights : List ℕ} → P weights → P (controls_read_by n s weights)
    read_keeps n (straight.set within x value) h = within_keeps n within h
    read_keeps n (straight.array x size values) h = h
    read_keeps n (straight.put within place x size index value) h = within_keeps n within h
    read_keeps n (straight.take control within condition) h = within_keeps n within h
    read_keeps n (straight.branch condition accepted otherwise) h =
        all_read_keep n otherwise (all_read_keep n accepted h)
    read_keeps n (straight.repeats x low high body) h = all_read_keep (weight_inside n) body h

    pub all_read_keep : (n : ℕ) (b : StraightBlock) {weights : List ℕ} → P weights
        → P (controls_read_by_all n b weights)
    all_read_keep n nothing h = h
    all_read_keep n (first s rest) h = all_read_keep n rest (read_keeps n s h)

-- so their count is kept
length_kept : (k n x : ℕ) (weights : List ℕ) → length weights ≡ k → length (used n x weights) ≡ k
length_kept k n x weights is = used_length n x weights ∙ is

pub word_weights_length : (p : StraightProgram) → length (word_weights_of p) ≡ length p.declared + p.controls
word_weights_length p =
    let n = length p.declared in
    let variables = result_keeps (λ weights. length weights ≡ n) (length_kept n) p.value
    {weights = used_by_all 1 p.body (replicate n 0)} (all_keep (λ weights. length weights ≡ n) (length_kept n) 1 p.body
    {weights = replicate n 0} (length-replicate n 0)) in
    let controls = all_read_keep (λ weights. length weights ≡ p.controls) (length_kept p.controls) 1 p.body
    {weights = replicate p.controls 0} (length-replicate p.controls 0) in
    omega (arith, length-append (weights_of p) (control_weights_of p), variables, controls)

-- Mirrors have one for each variable.

mirrors_length : (uses : Uses) (words : List ℕ) (x count : ℕ)
    → length (mirror_weights_from uses words x count) ≡ count
mirrors_length uses words x zero = refl
mirrors_length uses words x (suc count) = ap suc (mirrors_length uses words (x + 1) count)

pub mirror_weights_length : (p : StraightProgram) → length (mirror_weights_of p) ≡ length p.declared
mirror_weights_length p = mirrors_length (uses_of p) (word_weights_of p) 0 (length p.declared)
