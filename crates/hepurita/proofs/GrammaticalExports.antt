-- The export of a program that a source is, is grammatical; so its work is a sum over the source, and so is the limit
-- on it.
use Rattle.std.proofs.Common.{◌≡◌, ℕ, List, [], Some, ap₂, nat_lt}
use Rattle.std.specs.List.{AllByRecursion}
use Rattle.hepurita.specs.Below.{accepted, because, cost_by, exported, flattened, most_work, ProcedureTree, Profile}
use Rattle.hepurita.specs.Below.{ProgramTree, Reads, TooMuchWork, iterations_of, when, work_of}
use Rattle.hepurita.specs.source_work.SourceWork.{source_work, work_cost, work_violations}
use Rattle.language.specs.Shares.{excess}
use Rattle.language.specs.declared.cost.Cost.{Cost}
use Rattle.language.specs.declared.why.Counted.TheVariants.{Work}
use Rattle.language.specs.declared.why.Why.TheVariants.{TooMuch}
use Rattle.intervals.specs.Work.{work_violations as body_violations}
use Rattle.language.specs.Grammatical.{IsGrammatical}
use Rattle.hepurita.proofs.source_work_lemmas.Export.{cost_is_that_of_the_body, work_is_that_of_the_body}
use Rattle.syntax.proofs.GrammarLemmas.{read_text}
use Rattle.hepurita.specs.Built.{IsSmall}
use Rattle.hepurita.proofs.Exports.{of_export}

-- what the grammar gives of a program's export, and of those before it
abbrev pub HasGrammaticalExport : ProgramTree → Type 0
HasGrammaticalExport program = (before : List ProcedureTree) (p : ProcedureTree)
    → exported [] program.procedures ≡ Some (before, p) → AllByRecursion IsGrammatical before × IsGrammatical p

-- the export of a program that a source is, is grammatical, and so are those before it
pub grammatical_export : (source : List ℕ) (program : ProgramTree) → Reads source (accepted program)
    → HasGrammaticalExport program
grammatical_export source program reads before p is =
    of_export IsGrammatical program.procedures before p is (read_text source program reads)

-- its work, as a sum over the source, is that of the body
pub same_work : (profile : Profile) (program : ProgramTree) (before : List ProcedureTree) (export : ProcedureTree)
    → HasGrammaticalExport program → IsSmall profile program before export
    → source_work before export ≡ work_of (flattened profile before export)
same_work profile program before export plain small =
    let is = small.well_formed in
    let parts = plain before export is.is_export in
    work_is_that_of_the_body profile program before export is.typed is.is_export parts.0 parts.1

-- so is what is counted of it, and the part that has most
pub same_cost : (profile : Profile) (program : ProgramTree) (before : List ProcedureTree) (export : ProcedureTree)
    → HasGrammaticalExport program → IsSmall profile program before export
    → work_cost before export ≡ cost_by (iterations_of (flattened profile before export))
    (flattened profile before export)
same_cost profile program before export plain small =
    let is = small.well_formed in
    let parts = plain before export is.is_export in
    cost_is_that_of_the_body profile program before export is.typed is.is_export parts.0 parts.1

-- and one limit is passed by both
pub same_violations : (profile : Profile) (program : ProgramTree) (before : List ProcedureTree)
    (export : ProcedureTree) → HasGrammaticalExport program → IsSmall profile program before export
    → work_violations before export ≡ body_violations (flattened profile before export)
same_violations profile program before export plain small =
    ap₂ (λ (work : ℕ) (cost : Cost).
    because (TooMuch (excess Work cost)) export.place (when (nat_lt most_work work) TooMuchWork))
    (same_work profile program before export plain small) (same_cost profile program before export plain small)
