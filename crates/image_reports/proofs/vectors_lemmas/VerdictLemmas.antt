-- What is said of a vector, from what was read, what its run gave, and what an observer sees.
use Rattle.std.proofs.Common.{◌≡◌, ℕ, ◌+◌, ◌<◌, List, [], ◌∷◌, ◌++◌, codes, get_or, length, map, take, Option, Some}
use Rattle.std.proofs.Common.{None, Ok, Err, sym, ap, subst, ◌∙◌}
use Rattle.std.proofs.lemmas.List.{take_more, map-append}
use Rattle.image_reports.specs.Below.{Arg, ArgumentFault, CertifiedEnd, fault_text, Fields, Hidden, Means, Param}
use Rattle.image_reports.specs.Below.{params_of, ProgramTree, Results}
use Rattle.image_reports.specs.certificates.Certified.{Certified}
use Rattle.image_reports.specs.vectors.Lines.{NamedVector}
use Rattle.image_reports.specs.vectors.Spelled.{TextsSpell, IsDifference, IsReading, Spell, lists_of, publics}
use Rattle.image_reports.specs.vectors.Texts.{plain}
use Rattle.image_reports.specs.vectors.Verdicts.{VectorGives, IsVerdict, no_arguments, another_outcome, right_outcome}
use Rattle.image_reports.specs.vectors.Verdicts.{wrong_in, Tried, passed, failed}

module _ (program : ProgramTree) (image : Fields) (vector : NamedVector) where
  -- the fault of the arguments' texts
  pub faulty : (params : List Param) (texts : List (List ℕ)) (fault : ArgumentFault) (text : List ℕ)
      → params ≡ params_of image → texts ≡ map plain vector.given → IsReading params texts (Err fault)
      → text ≡ fault_text fault → IsVerdict program image vector (Some text)
  faulty params texts fault text are_params are_texts is said =
      let broken : IsReading (params_of image) (map plain vector.given) (Err fault) =
      subst (λ (ts : List (List ℕ)). IsReading (params_of image) ts (Err fault)) are_texts
      (subst (λ (ps : List Param). IsReading ps texts (Err fault)) are_params is) in
      subst (λ (t : List ℕ). IsVerdict program image vector (Some t)) (sym said) (no_arguments broken)

  module _ (args : List Arg) (spelled : TextsSpell (params_of image) (map plain vector.given) args)
      (results : Results) (means : Means program args results)
      (wanted lists : List (List ℕ)) (is_wanted : wanted ≡ vector.wanted) (listed : lists ≡ lists_of results)
      (found : Option (List ℕ)) (differs : IsDifference wanted lists found) where
    gives : VectorGives program image vector args results
    gives = record { spelled = spelled; means = means }

    compared : IsDifference vector.wanted (lists_of results) found
    compared = subst (λ (l : List (List ℕ)). IsDifference vector.wanted l found) listed
        (subst (λ (w : List (List ℕ)). IsDifference w lists found) is_wanted differs)

    -- the run gave other lists than the outcome's texts ask for
    pub other : (text : List ℕ) → found ≡ Some text → IsVerdict program image vector (Some text)
    other text is =
        let both : IsDifference vector.wanted (lists_of results) (Some text) =
        subst (IsDifference vector.wanted (lists_of results)) is compared in
        subst (λ (t : List ℕ). IsVerdict program image vector (Some t)) (sym both.1) (another_outcome gives both.0)

    -- or those, and so much is wrong with what an observer sees
    pub right : (end : CertifiedEnd) (wrong : Option (List ℕ)) → found ≡ None
        → Certified image (publics (params_of image) args) Hidden (Ok end) → wrong ≡ wrong_in end
        → IsVerdict program image vector wrong
    right end wrong is seen said =
        let asks : Spell (map plain vector.wanted) (lists_of results) =
        subst (IsDifference vector.wanted (lists_of results)) is compared in
        subst (IsVerdict program image vector) (sym said) (right_outcome gives asks seen)

-- one vector more is tried
module _ {A : Type 0} (program : ProgramTree) (image : Fields) (view : A
    → NamedVector) (vectors : List A) (i : ℕ) (vector : A) (below : i < length vectors)
    (is : vector ≡ get_or vectors i vector) (m n m' n' : ℕ) (text text' : List ℕ)
    (tried : Tried program image (map view (take i vectors)) m n text) where
  one_more : map view (take i vectors) ++ view vector ∷ [] ≡ map view (take (i + 1) vectors)
  one_more =
      ap (λ (v : A). map view (take i vectors) ++ view v ∷ []) is
      ∙ sym (map-append view (take i vectors) (get_or vectors i vector ∷ []))
      ∙ ap (map view) (sym (take_more vectors i vector below))

  -- which passes
  pub passed_more : IsVerdict program image (view vector) None → m' ≡ m + 1 → n' ≡ n → text' ≡ text
      → Tried program image (map view (take (i + 1) vectors)) m' n' text'
  passed_more passes is_m is_n is_text =
      rw (is_m, is_n, is_text) (subst (λ (vs : List NamedVector). Tried program image vs (m + 1) n text) one_more
      (passed tried passes))

  -- or fails
  pub failed_more : (wrong : List ℕ) → IsVerdict program image (view vector) (Some wrong) → m' ≡ m → n' ≡ n + 1
      → text' ≡ text ++ (view vector).name ++ codes ": " ++ wrong ++ codes "\n"
      → Tried program image (map view (take (i + 1) vectors)) m' n' text'
  failed_more wrong fails is_m is_n is_text =
      rw (is_m, is_n, is_text)
      (subst (λ (vs : List NamedVector). Tried program image vs m (n + 1)
      (text ++ (view vector).name ++ codes ": " ++ wrong ++ codes "\n")) one_more (failed tried fails))
