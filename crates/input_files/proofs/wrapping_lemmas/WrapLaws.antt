-- Of a text, code and what is asked besides there is one answer.
use Rattle.std.proofs.Common.{◌≡◌, ℕ, List, length, map, Option, None, Some, sym, ap, subst, ◌∙◌}
use Rattle.std.proofs.lemmas.Option.{same_Some}
use Rattle.input_files.proofs.wrapping_lemmas.Below.{grammatical_export, one_export}
use Rattle.input_files.specs.Below.{accepts, Fields, fine, Judges, Param, param_of, ProcedureTree, Profile, ProgramTree}
use Rattle.input_files.specs.Below.{readable, Spells, WordType}
use Rattle.image.proofs.Spellings.{one_by_fields}
use Rattle.inline.proofs.FlatSizes.{flat_is_sized}
use Rattle.syntax.specs.Reading.{OneAnswer}
use Rattle.input_files.specs.wrapping.Wrapped.{Breaks, IsAskedFor, IsWrapped, broken_rule, end_of}
use Rattle.input_files.specs.declared.wrapping.asked.Asked.{Asked}
use Rattle.input_files.specs.declared.wrapping.fault.CodeRule.{CodeRule}
use Rattle.input_files.proofs.wrapping_lemmas.FieldLemmas.{AreWithinLimits}
use Rattle.input_files.proofs.wrapping_lemmas.WordLemmas.{same_words}

-- the parameters of an accepted text's export are within the limits
pub limits_of : (profile : Profile) (text : List ℕ) (program : ProgramTree) (before : List ProcedureTree)
    (export : ProcedureTree) → Judges profile text (accepts program before export)
    → AreWithinLimits (map param_of export.parameters)
limits_of profile text program before export (readable reads (fine small in_range in_time)) =
    let is = small.well_formed in
    let parts = grammatical_export text program reads before export is.is_export in
    let sized = flat_is_sized profile program before export is.typed is.is_export parts.0 parts.1 small.sized in
    record { lengths = sized.lengths; given = sized.parameters }

-- the fields that are asked for are one
one_image : (params : List Param) (returned : Option WordType) (code : List ℕ) (asked : Asked) (one other : Fields)
    → IsAskedFor params returned code asked one → IsAskedFor params returned code asked other → one ≡ other
one_image params returned code asked one other a b =
    let words = same_words one.words other.words a.allowed.words b.allowed.words (a.words ∙ sym b.words) in
    λ i. record {
      profile = (a.observed ∙ sym b.observed) i;
      slots = (a.slots ∙ sym b.slots) i;
      returned = (a.result ∙ sym b.result) i;
      frame_bytes = (a.frame ∙ sym b.frame) i;
      max_steps = (a.steps ∙ sym b.steps) i;
      words = words i;
    }

abbrev broken_in : ProcedureTree → List ℕ → Asked → Option CodeRule
broken_in export code asked = broken_rule (end_of (map param_of export.parameters) export.result) (length code) asked

module _ (answer : OneAnswer) (text code : List ℕ) (asked : Asked) where
  pub one_wrapped : (one other : List ℕ) → IsWrapped text code asked one → IsWrapped text code asked other
      → one ≡ other
  one_wrapped one other a b =
      let same = one_export asked.profile answer text a.program b.program a.before b.before a.export b.export a.judged
      b.judged in
      let fields = subst (λ (p : ProcedureTree). IsAskedFor (map param_of p.parameters) p.result code asked a.image)
      same.2 a.fields in
      let images = one_image (map param_of b.export.parameters) b.export.result code asked a.image b.image fields
      b.fields in
      one_by_fields one other b.image a.are_bytes b.are_bytes
      (subst (λ (f : Fields). Spells one f) images a.spelled) b.spelled

  pub one_rule : (one other : CodeRule) → Breaks text code asked one → Breaks text code asked other → one ≡ other
  one_rule one other a b =
      let same = one_export asked.profile answer text a.program b.program a.before b.before a.export b.export a.judged
      b.judged in
      same_Some one other (sym a.first ∙ (ap (λ (p : ProcedureTree). broken_in p code asked) same.2 ∙ b.first))

  pub not_both : (bytes : List ℕ) (rule : CodeRule) → IsWrapped text code asked bytes
      → Breaks text code asked rule → ⊥
  not_both bytes rule a b =
      let same = one_export asked.profile answer text a.program b.program a.before b.before a.export b.export a.judged
      b.judged in
      let both : None ≡ Some rule = sym a.fields.unbroken
      ∙ (ap (λ (p : ProcedureTree). broken_in p code asked) same.2 ∙ b.first) in
      cc
