-- What each pass lists of a program, and that the first that is listed is the one that refuses it.
use Rattle.std.proofs.Common.{◌≡◌, ◌<◌, ℕ, inl, inr, List, [], ◌∷◌, length, Some, None, refl, ap, ap₂, sym, subst, ◌∙◌}
use Rattle.std.proofs.Common.{arith}
use Rattle.std.proofs.lemmas.List.Sorted.{length_permutation}
use Rattle.findings.proofs.OrderLemmas.{named_first}
use Rattle.hepurita.proofs.BuiltLemmas.{IsAllowedFlat, IsLargeFor, refusal_of_export, refusal_of_program}
use Rattle.hepurita.proofs.BuiltLemmas.{refusal_of_source, refusal_of_types}
use Rattle.hepurita.proofs.GrammaticalExports.{HasGrammaticalExport, same_violations}
use Rattle.hepurita.proofs.TellingLemmas.{told_of_size}
use Rattle.hepurita.specs.Below.{AreInOrder, exported, first_found, FlatProgram, flattened, IsNamed}
use Rattle.hepurita.specs.Below.{IsRefusedAs, IsRefusedFor, IsWantOfMemory, Place, ProcedureTree, Profile, ProgramTree}
use Rattle.hepurita.specs.Below.{range_violations, Reads, Refusal, refused, Rule, size_violations, TellsOf, Violation}
use Rattle.hepurita.specs.Below.{violations}
use Rattle.hepurita.specs.Built.{accepts, fine, IsRefusal, IsSmall, Judges, JudgesProgram, out_of_range, readable}
use Rattle.hepurita.specs.Built.{too_much_work}
use Rattle.hepurita.specs.Listed.{by_ranges, by_size, by_types, lists_program, lists_refusal, ListsProgram}
use Rattle.hepurita.specs.Listed.{ListsViolations, ViolatesAsProgram}
use Rattle.hepurita.specs.Told.{IsRefusalOf, IsToldOfProgram, of_ranges, of_types, of_work}
use Rattle.hepurita.specs.source_work.SourceWork.{work_violations}
use Rattle.intervals.specs.Work.{work_violations as body_violations}
use Rattle.language.proofs.SoonerLemmas.{found_first}
use Rattle.language.specs.declared.why.Why.{Why}

-- as many are listed as there are
as_many : (all found : List Violation) → AreInOrder all found → length found ≡ length all
as_many all found order = length_permutation all found order.same

-- where nothing is violated a refusal says out of memory
memory_alone : (all : List Violation) (r : Refusal) → length all ≡ 0 → IsRefusedFor all r.rule r.place
    → IsWantOfMemory r.rule r.place
memory_alone all r none (inl memory) = memory
memory_alone all r none (inr (first, is, rule, place)) = absurd (omega (arith, none, is.there.1))

-- where nothing is listed nothing is violated
pub none_listed : (all found : List Violation) → AreInOrder all found → length found ≡ 0 → length all ≡ 0
none_listed all found order none = sym (as_many all found order) ∙ none

-- the refusal of a text that is no program
pub alone_listed : (profile : Profile) (source : List ℕ) (r : Refusal) (place : Place) (found : List Violation)
    → r.place ≡ Some place → IsRefusedAs (Reads source) r
    → found ≡ record { place = place; rule = r.rule; why = r.why } ∷ [] → ListsViolations profile source found
alone_listed profile source r place found at (inl memory) is = absurd (apart (sym at ∙ memory.1))
  where
    apart : {p : Place} → Some p ≡ None → ⊥
    apart h = cc
alone_listed profile source r place found at (inr (there, same, reads, plain)) is =
    lists_refusal reads
    (is ∙ ap₂ (λ (p : Place) (why : Why). record { place = p; rule = r.rule; why = why } ∷ []) (inside (sym at ∙ same))
    plain)
  where
    inside : {p q : Place} → Some p ≡ Some q → p ≡ q
    inside h = cc

module _ (profile : Profile) (program : ProgramTree) where
  pub types_listed : (found : List Violation) → AreInOrder (violations profile program) found → 0 < length found
      → ListsProgram profile program found
  types_listed found order some = record {
    all = violations profile program;
    violated = by_types (omega (arith, some, as_many (violations profile program) found order));
    order = order;
  }

  pub memory_of_types : (r : Refusal) → length (violations profile program) ≡ 0
      → IsRefusedFor (violations profile program) r.rule r.place → IsWantOfMemory r.rule r.place
  memory_of_types r typed why = memory_alone (violations profile program) r typed why

  -- the limits on size that are passed
  abbrev pub AreSizes : List Violation → Type 0
  AreSizes found = (before : List ProcedureTree) × (export : ProcedureTree)
      × (exported [] program.procedures ≡ Some (before, export)) × AreInOrder (size_violations before export) found

  pub sizes_listed : (found : List Violation) → length (violations profile program) ≡ 0 → AreSizes found
      → 0 < length found → ListsProgram profile program found
  sizes_listed found typed (before, export, is, order) some = record {
    all = size_violations before export;
    violated = by_size (record { typed = typed; is_export = is })
        (omega (arith, some, as_many (size_violations before export) found order));
    order = order;
  }

  pub memory_of_sizes : (found : List Violation) (r : Refusal) → AreSizes found → length found ≡ 0
      → IsLargeFor profile program r → IsWantOfMemory r.rule r.place
  memory_of_sizes found r (before, export, is, order) none (before', export', is', why) =
      memory_alone (size_violations before' export') r
      (sym (ap (λ (parts : List ProcedureTree × ProcedureTree). length (size_violations parts.0 parts.1)) same)
      ∙ (sym (as_many (size_violations before export) found order) ∙ none)) why
    where
      same : ◌≡◌ {A = List ProcedureTree × ProcedureTree} (before, export) (before', export')
      same = inside (sym is ∙ is')
        where
          inside : {a b : List ProcedureTree × ProcedureTree} → Some a ≡ Some b → a ≡ b
          inside h = cc

  pub ranges_listed : (flat : FlatProgram) (found : List Violation) → HasGrammaticalExport program
      → length (violations profile program) ≡ 0 → IsAllowedFlat profile program flat
      → AreInOrder (first_found (range_violations flat) (body_violations flat)) found
      → ListsProgram profile program found
  ranges_listed flat found plain typed (before, export, is, sized, made) order = record {
    all = first_found (range_violations (flattened profile before export)) (work_violations before export);
    violated = by_ranges small;
    order = subst
        (λ (works : List Violation).
        AreInOrder (first_found (range_violations (flattened profile before export)) works) found)
        (sym (same_violations profile program before export plain small))
        (subst (λ (f : FlatProgram). AreInOrder (first_found (range_violations f) (body_violations f)) found) made order);
  }
    where
      small : IsSmall profile program before export
      small = record { well_formed = record { typed = typed; is_export = is }; sized = sized }

  -- nothing is listed
  judged_fine : (all : List Violation) → ViolatesAsProgram profile program all → length all ≡ 0
      → (before : List ProcedureTree) × (export : ProcedureTree) × JudgesProgram profile program (accepts program before export)
  judged_fine all (by_types some) none = absurd (omega (arith, some, none))
  judged_fine all (by_size is some) none = absurd (omega (arith, some, none))
  judged_fine all (by_ranges {before} {export} small) none =
      let parts = of_both (range_violations (flattened profile before export)) (work_violations before export) none in
      (before, export, fine small parts.0 parts.1)
    where
      of_both : (ranges works : List Violation) → length (first_found ranges works) ≡ 0
          → (length ranges ≡ 0) × (length works ≡ 0)
      of_both [] works h = (refl, h)
      of_both (v ∷ vs) works h = absurd (omega (arith, h))

  -- the first that is listed refuses it, and is told
  judged_refused : (all : List Violation) (r : Refusal) (first : Violation) → ViolatesAsProgram profile program all
      → IsNamed all first → TellsOf r first
      → IsRefusal (JudgesProgram profile program) r × IsToldOfProgram profile program r
  judged_refused all r first (by_types some) named tells = (
    refusal_of_types profile program r (inr (first, found_first all first named, tells.rule, tells.place)),
    of_types (inr (first, named, tells)),
  )
  judged_refused all r first (by_size {before} {export} is some) named tells = (
    refusal_of_export profile program r is.typed
        (before, export, is.is_export, inr (first, found_first all first named, tells.rule, tells.place)),
    told_of_size profile program r is.typed (before, export, is.is_export, inr (first, named, tells)),
  )
  judged_refused all r first (by_ranges {before} {export} small) named tells =
      by (range_violations (flattened profile before export)) refl named
    where
      by : (ranges : List Violation) → range_violations (flattened profile before export) ≡ ranges
          → IsNamed (first_found ranges (work_violations before export)) first
          → IsRefusal (JudgesProgram profile program) r × IsToldOfProgram profile program r
      by [] is named =
          let none : length (range_violations (flattened profile before export)) ≡ 0 = rw is refl in (
            inr (
              first.place,
              tells.place,
              rw tells.rule
                  (too_much_work small none (found_first (work_violations before export) first named)),
            ),
            of_work small none (inr (first, named, tells)),
          )
      by (v ∷ vs) is named =
          let here : IsNamed (range_violations (flattened profile before export)) first = rw is named in (
            inr (
              first.place,
              tells.place,
              rw tells.rule
                  (out_of_range small
                  (found_first (range_violations (flattened profile before export)) first here)),
            ),
            of_ranges small (inr (first, here, tells)),
          )

-- of a source
pub listed_fine : (profile : Profile) (source : List ℕ) → ListsViolations profile source []
    → (program : ProgramTree) × (before : List ProcedureTree) × (export : ProcedureTree)
    × Judges profile source (accepts program before export)
listed_fine profile source (lists_refusal reads is) = absurd (omega (arith, ap (λ (vs : List Violation). length vs) is))
listed_fine profile source (lists_program {program} reads listed) =
    let fine = judged_fine profile program listed.all listed.violated (sym (as_many listed.all [] listed.order)) in
    (program, fine.0, fine.1, readable reads fine.2)

pub listed_refused : (profile : Profile) (source : List ℕ) (r : Refusal) (first : Violation) (others : List Violation)
    → ListsViolations profile source (first ∷ others) → TellsOf r first → IsRefusalOf profile source r
listed_refused profile source r first others (lists_refusal {rule} {place} reads is) tells =
    let one = head_is is in
    refusal_of_source profile source r
    (inr (
      place,
      tells.place ∙ ap (λ (v : Violation). Some v.place) one,
      subst (λ (of : Rule). Reads source (refused of place)) (sym (tells.rule ∙ ap (λ (v : Violation). v.rule) one)) reads,
      tells.why ∙ ap (λ (v : Violation). v.why) one,
    ))
  where
    head_is : {v u : Violation} {vs us : List Violation} → v ∷ vs ≡ u ∷ us → v ≡ u
    head_is h = cc
listed_refused profile source r first others (lists_program {program} reads listed) tells =
    let named = sym (named_first listed.all (first ∷ others) listed.order) in
    let told = judged_refused profile program listed.all r first listed.violated named tells in
    refusal_of_program profile source program r reads told.0 told.1
