-- The exported procedure: where it stands, and that a program that violates no rule has one.
use Rattle.std.proofs.Common.{◌≡◌, ℕ, suc, ◌+◌, ◌<◌, Bool, true, false, List, [], ◌∷◌, ◌++◌, length, length-append}
use Rattle.std.proofs.Common.{append-nil, append_assoc, Option, None, Some, is_some, cond, slice_get, take, get_or}
use Rattle.std.proofs.Common.{map, fold, refl, ap, ap₂, sym, ◌∙◌, arith, subst}
use Rattle.std.proofs.ByRecursion.{All-get_or, All-take}
use Rattle.std.specs.List.{AllByRecursion}
use Rattle.std.specs.Option.{option_map}
use Rattle.std.proofs.lemmas.List.{get_or-map, length-map, take-map}
use Rattle.std.proofs.lemmas.List.Sums.{fold-append}
use Rattle.std.proofs.lemmas.Option.{slice_get-map, slice_get_read, slice_get_within}
use Rattle.labels.specs.Below.{empty, export_place, export_violations, exported, exports, Place, procedure_tree}
use Rattle.labels.specs.Below.{procedures_violations, ProcedureTree, ProgramTree, Noted, noted, nothing_within, sooner}
use Rattle.labels.specs.Below.{Violation, violations}
use Rattle.word.specs.declared.profile.Profile.{Profile}
use Rattle.language.specs.declared.tree.Procedure.{Procedure}
use Rattle.labels.specs.Exports.{export_index}

-- the exported procedure, and those before it, if there is one
abbrev pub Export : Type 0
Export = Option (List ProcedureTree × ProcedureTree)

-- where nothing is exported the word `export` stands nowhere
no_places : (before ps : List ProcedureTree) → exported before ps ≡ None → exports ps ≡ []
no_places before [] none = refl
no_places before (p ∷ ps) none = by p.export _ none (no_places (before ++ p ∷ []) ps)
  where
    by : (place : Option Place) (rest : Export) → cond {A = Export} (is_some place) (Some (before, p)) rest ≡ None
        → (rest ≡ None → exports ps ≡ []) → export_place place (exports ps) ≡ []
    by None rest is after = after is
    by (Some place) rest is after = cc

pub has_export : (profile : Profile) (program : ProgramTree) → length (violations profile program) ≡ 0
    → exported [] program.procedures ≡ None → ⊥
has_export profile program typed none =
    let both = length-append (export_violations (exports program.procedures))
    (procedures_violations [] (empty profile) program.procedures) in
    let missing = ap (λ (places : List Place). length (export_violations places))
    (no_places [] program.procedures none) in
    absurd (omega (arith, typed, both, missing))

pub no_index : (found : Export) → export_index found ≡ None → found ≡ None
no_index None h = refl
no_index (Some both) h = cc

-- a procedure at its index, and those before it
record Stands (before ps : List ProcedureTree) (found : Export) (index : ℕ) : Type 0 where
  place : ℕ
  export : ProcedureTree
  is : index ≡ length before + place
  there : slice_get ps place ≡ Some export
  found_so : found ≡ Some (before ++ take place ps, export)

stands : (before ps : List ProcedureTree) (index : ℕ) → export_index (exported before ps) ≡ Some index
    → Stands before ps (exported before ps) index
stands before [] index h = cc
stands before (p ∷ ps) index h = by (is_some p.export) _ h (stands (before ++ p ∷ []) ps index)
  where
    by : (marked : Bool) (rest : Export) → export_index (cond {A = Export} marked (Some (before, p)) rest)
        ≡ Some index → (export_index rest ≡ Some index → Stands (before ++ p ∷ []) ps rest index)
        → Stands before (p ∷ ps) (cond {A = Export} marked (Some (before, p)) rest) index
    by true rest h after =
        let same : length before ≡ index = cc in
        record {
          place = 0;
          export = p;
          is = omega (arith, same);
          there = refl;
          found_so = ap (λ (l : List ProcedureTree). Some (l, p)) (sym (append-nil before));
        }
    by false rest h after =
        let later = after h in
        record {
          place = suc later.place;
          export = later.export;
          is = omega (arith, length-append before (p ∷ []));
          there = later.there;
          found_so = later.found_so
              ∙ ap (λ (l : List ProcedureTree). Some (l, later.export))
              (append_assoc before (p ∷ []) (take later.place ps));
        }

-- the index is one of the list's
pub index_inside : (before ps : List ProcedureTree) (index : ℕ) → export_index (exported before ps) ≡ Some index
    → index < length before + length ps
index_inside before ps index h =
    let it = stands before ps index h in
    let inside = slice_get_within ps it.place it.export it.there in
    omega arith

-- the procedure at the index is the export
pub export_at : (ps : List ProcedureTree) (index : ℕ) → export_index (exported [] ps) ≡ Some index
    → (export : ProcedureTree) × (slice_get ps index ≡ Some export) × (exported [] ps ≡ Some (take index ps, export))
export_at ps index h =
    let it = stands [] ps index h in
    let same : it.place ≡ index = omega arith in (
      it.export,
      ap (slice_get ps) (sym same) ∙ it.there,
      it.found_so
          ∙ ap (λ (n : ℕ). Some (take n ps, it.export)) same,
    )

-- the same, read from the code's list
pub export_read : (items : List Procedure) (index : ℕ) (p : Procedure) → index < length items
    → p ≡ get_or items index p → export_index (exported [] (map procedure_tree items)) ≡ Some index
    → exported [] (map procedure_tree items) ≡ Some (map procedure_tree (take index items), procedure_tree p)
export_read items index p inside is h =
    let it = export_at (map procedure_tree items) index h in
    let there : slice_get (map procedure_tree items) index ≡ Some (procedure_tree p) =
    slice_get-map procedure_tree items index
    ∙ ap (option_map procedure_tree) (slice_get_read items (length items) index p refl inside is) in
    let some : Some it.0 ≡ Some (procedure_tree p) = sym it.1 ∙ there in
    let same : it.0 ≡ procedure_tree p = cc in
    it.2 ∙ ap₂ (λ (l : List ProcedureTree) (q : ProcedureTree). Some (l, q)) (take-map procedure_tree index items) same

-- what holds of all procedures holds of those before the index, and of the one there
pub parts_of : (P : ProcedureTree → Type 0) (items : List Procedure) (index : ℕ) (p : Procedure)
    → index < length items → p ≡ get_or items index p → AllByRecursion P (map procedure_tree items)
    → AllByRecursion P (map procedure_tree (take index items)) × P (procedure_tree p)
parts_of P items index p inside is all =
    let many = length-map items procedure_tree in
    let there : get_or (map procedure_tree items) index (procedure_tree p) ≡ procedure_tree p =
    get_or-map procedure_tree items index p (procedure_tree p) inside ∙ ap procedure_tree (sym is) in (
      subst (AllByRecursion P) (take-map procedure_tree index items)
          (All-take P index (map procedure_tree items) all),
      subst P there (All-get_or P (map procedure_tree items) index (procedure_tree p)
          (omega (arith, inside, many)) all),
    )

-- ---- what `check` has of a program after both looks at its procedures

module _ (profile : Profile) (items slice : List Procedure) (same : slice ≡ items) where
  abbrev trees : List ProcedureTree
  trees = map procedure_tree items

  -- what is found
  pub found_over : (before a b : Noted)
      → a ≡ fold noted before (export_violations (exports (map procedure_tree slice)))
      → b ≡ fold noted a (procedures_violations [] (empty profile) (map procedure_tree slice))
      → b ≡ fold noted before (violations profile (record { procedures = trees }))
  found_over before a b h k =
      rw (← same) (k ∙ ap (λ (found : Noted). fold noted found
      (procedures_violations [] (empty profile) (map procedure_tree slice))) h
      ∙ sym (fold-append noted before (export_violations (exports (map procedure_tree slice)))
      (procedures_violations [] (empty profile) (map procedure_tree slice))))

  -- and the first of it
  pub first_same : (before found : Noted) (first : Option Violation) → before ≡ nothing_within 0
      → found ≡ fold noted before (violations profile (record { procedures = map procedure_tree slice }))
      → ((all : List Violation) → found ≡ fold noted (nothing_within 0) all → first ≡ fold sooner None all)
      → first ≡ fold sooner None (violations profile (record { procedures = trees }))
  first_same before found first none h of_all =
      of_all (violations profile (record { procedures = trees })) (rw (← same, ← none) h)

  indexed : (index : Option ℕ) → index ≡ export_index (exported [] (map procedure_tree slice))
      → export_index (exported [] trees) ≡ index
  indexed index h = rw (← same) (sym h)

  -- and the export
  pub index_of : (found : Option ℕ) (index : ℕ) → found ≡ export_index (exported [] (map procedure_tree slice))
      → found ≡ Some index → (export_index (exported [] trees) ≡ Some index) × (index < length items)
  index_of found index h is =
      let at = indexed found h ∙ is in
      let inside = index_inside [] trees index at in
      let many = length-map items procedure_tree in
      (at, omega (arith, inside, many))

  pub one_exported : (found : Option ℕ) → found ≡ export_index (exported [] (map procedure_tree slice)) → found ≡ None
      → length (violations profile (record { procedures = trees })) ≡ 0 → ⊥
  one_exported found h is typed =
      has_export profile (record { procedures = trees }) typed (no_index (exported [] trees) (indexed found h ∙ is))
