-- Of a vector one thing is said, and each vector is counted once.
use Rattle.std.proofs.Common.{◌≡◌, ◌≢◌, ℕ, ◌+◌, List, [], ◌∷◌, length, map, Option, Some, Result, Ok, Err, refl, sym}
use Rattle.std.proofs.Common.{ap, subst, ◌∙◌, arith, length-append}
use Rattle.image_reports.specs.Below.{AreWithin, Arg, ArgumentFault, CertifiedEnd, fault_of_texts, fault_text, Fields}
use Rattle.image_reports.specs.Below.{Hidden, Means, Memory, Param, params_of, ProgramTree, Results, RunFault, words_of}
use Rattle.image_reports.specs.certificates.Certified.{Certified}
use Rattle.language.specs.Meaning.{gives}
use Rattle.image_reports.specs.vectors.Lines.{NamedVector}
use Rattle.image_reports.specs.vectors.Texts.{plain, difference_text}
use Rattle.image_reports.specs.vectors.Spelled.{lists_of, publics}
use Rattle.image_reports.specs.vectors.Verdicts.{Asks, VectorGives, IsVerdict, no_arguments, another_outcome}
use Rattle.image_reports.specs.vectors.Verdicts.{right_outcome, wrong_in, Tried, none, passed, failed}
use Rattle.image_reports.proofs.vectors_lemmas.SpellLemmas.{none_some, spelled_faultless}

-- a source has one meaning on arguments
gives_same : (one other : Results) → gives one ≡ gives other → one ≡ other
gives_same one other e = cc

one_meaning : (program : ProgramTree) (args : List Arg) (one other : Results) → Means program args one
    → Means program args other → one ≡ other
one_meaning program args one other first second = gives_same one other (second.alone (gives one) first.given)

-- the laws of the layers below
abbrev pub OneReading : Type 0
OneReading = (params : List Param) (one other : List Arg) → AreWithin params one → AreWithin params other
    → map (λ arg. Some (words_of arg)) one ≡ map (λ arg. Some (words_of arg)) other → one ≡ other

abbrev pub OneCertificate : Type 0
OneCertificate = (image : Fields) (given : List (Option Arg)) (a b : Result CertifiedEnd RunFault)
    → Certified image given Hidden a → Certified image given Hidden b → a ≢ Err Memory → b ≢ Err Memory → a ≡ b

abbrev ok : CertifiedEnd → Result CertifiedEnd RunFault
ok end = Ok end

same_end : (one other : CertifiedEnd) → ok one ≡ ok other → one ≡ other
same_end one other e = cc

module _ (read : OneReading) (certify : OneCertificate) (program : ProgramTree) (image : Fields)
    (vector : NamedVector) where
  abbrev GivesSo : List Arg → Results → Type 0
  GivesSo args results = VectorGives program image vector args results

  not_both : (fault : ArgumentFault) (args : List Arg) (results : Results)
      → fault_of_texts (params_of image) (map plain vector.given) ≡ Some fault → GivesSo args results → ⊥
  not_both fault args results broken given =
      none_some fault (sym (spelled_faultless (params_of image) (map plain vector.given) args given.spelled) ∙ broken)

  same_args : (one other : List Arg) (r s : Results) → GivesSo one r → GivesSo other s → one ≡ other
  same_args one other r s a b = read (params_of image) one other a.spelled.within b.spelled.within (a.spelled.numbers
      ∙ sym b.spelled.numbers)

  same_results : (one other : List Arg) (r s : Results) → GivesSo one r → GivesSo other s → r ≡ s
  same_results one other r s a b =
      one_meaning program other r s
      (subst (λ (args : List Arg). Means program args r) (same_args one other r s a b) a.means) b.means

  not_asked : (one other : List Arg) (r s : Results) → GivesSo one r → GivesSo other s
      → (Asks program image vector r → ⊥) → Asks program image vector s → ⊥
  not_asked one other r s a b not is =
      not (subst (Asks program image vector) (sym (same_results one other r s a b)) is)

  pub one_verdict : (one other : Option (List ℕ)) → IsVerdict program image vector one
      → IsVerdict program image vector other → one ≡ other
  one_verdict _ _ (no_arguments {fault = f} a) (no_arguments {fault = g} b) = let same : f ≡ g =
      (let both : Some f ≡ Some g = sym a ∙ b in cc) in ap (λ fault. Some (fault_text fault)) same
  one_verdict _ _ (no_arguments {fault = f} a) (another_outcome {args} {results} given not) =
      absurd (not_both f args results a given)
  one_verdict _ _ (no_arguments {fault = f} a) (right_outcome {args} {results} given is end) =
      absurd (not_both f args results a given)
  one_verdict _ _ (another_outcome {args} {results} given not) (no_arguments {fault = f} a) =
      absurd (not_both f args results a given)
  one_verdict _ _ (right_outcome {args} {results} given is end) (no_arguments {fault = f} a) =
      absurd (not_both f args results a given)
  one_verdict _ _ (another_outcome {args = xs} {results = r} a not)
      (another_outcome {args = ys} {results = s} b not') =
      ap (λ results. Some (difference_text vector.wanted (lists_of results))) (same_results xs ys r s a b)
  one_verdict _ _ (another_outcome {args = xs} {results = r} a not)
      (right_outcome {args = ys} {results = s} b is end) = absurd (not_asked xs ys r s a b not is)
  one_verdict _ _ (right_outcome {args = ys} {results = s} b is end)
      (another_outcome {args = xs} {results = r} a not) = absurd (not_asked xs ys r s a b not is)
  one_verdict _ _ (right_outcome {args = xs} {results = r} {end = one} a is end)
      (right_outcome {args = ys} {results = s} {end = other} b is' end') =
      let mine = subst (λ (args : List Arg). Certified image (publics (params_of image) args) Hidden (Ok one))
      (same_args xs ys r s a b) end in
      ap wrong_in
      (same_end one other (certify image (publics (params_of image) ys) (ok one) (ok other) mine end' (λ e. cc)
      (λ e. cc)))

pub all_counted : (program : ProgramTree) (image : Fields) (vectors : List NamedVector) (m n : ℕ) (text : List ℕ)
    → Tried program image vectors m n text → m + n ≡ length vectors
all_counted program image _ m n text none = refl
all_counted program image _ m n text (passed {vectors = before} {vector} tried passes) =
    omega (arith, all_counted program image _ _ _ _ tried, length-append before (vector ∷ []))
all_counted program image _ m n text (failed {vectors = before} {vector} tried wrong) =
    omega (arith, all_counted program image _ _ _ _ tried, length-append before (vector ∷ []))
