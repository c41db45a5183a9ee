use Rattle.std.proofs.Common.{List, ℕ, refl, ◌∙◌, subst}
use Rattle.commands.specs.Answered.{not_answered}
use Rattle.commands.specs.Below.{accepts, Judges, program_tree}
use Rattle.commands.specs.Judged.{no_sources}
use Rattle.commands.specs.Sources.{no_memory}
use Rattle.commands.proofs.AnswerLemmas.{finds_answer, finds_fault, finds_converted, read_fault, read_memory}
use Rattle.commands.proofs.Counting.{tells_in_calm}
use Rattle.commands.proofs.SourceLemmas.{refused_as_lent, refused_in_sources}
use Rattle.commands.proofs.texts.check_text.Goals as goal

pub returns-in_err-joined-clause-finds : goal.returns-in_err-joined-clause-finds
returns-in_err-joined-clause-finds g c = λ tells.
    finds_fault _ _ c.from_residual.ensures.1 (no_sources (c.in_err-joined.ensures.refused tells), refl)

pub returns-in_err-line-in-Ok-clause-finds : goal.returns-in_err-line-in-Ok-clause-finds
returns-in_err-line-in-Ok-clause-finds g c = λ tells.
    finds_converted _ c.from_residual-in_err-line-in-Ok.ensures.1
    (λ e memory. (no_sources (no_memory memory), refl))

pub returns-in-Ok-clause-finds : goal.returns-in-Ok-clause-finds
returns-in-Ok-clause-finds g c = λ tells.
    let judged = c.in-Ok.ensures.accepted in
    let read = c.in_ok-joined.ensures.said tells in
    let program = program_tree c.in-Ok._accepted.program in
    finds_answer _ (c.of_text.ensures.text ∙ c.in_ok-line-in-Ok.ensures.ok) c.of_text.ensures.status (
      record {
        libraries = read.libraries;
        text = read.last;
        program = program;
        before = judged.0;
        export = judged.1;
        held = read.holds;
        judged =
            subst (λ (source : List ℕ). Judges c.args.profile source (accepts program judged.0 judged.1))
            (c.as_str-text.ensures.value ∙ read.is) judged.2;
      },
      refl,
      refl,
    ) refl

pub returns-clause-finds : goal.returns-clause-finds
returns-clause-finds g c = λ tells.
    not_answered (
      refused_in_sources (c.in_ok-joined.ensures.said tells)
          (refused_as_lent c.as_str-text.ensures.value c.as_slice-read.ensures.value c.in-Err.ensures.refused
          c.refused_in.ensures),
      refl,
    )

pub returns-in_err-joined-clause-read : goal.returns-in_err-joined-clause-read
returns-in_err-joined-clause-read g c = read_fault _ _ _ _ c.from_residual.ensures.1 c.in_err-joined.ensures.counted

pub returns-in_err-line-in-Ok-clause-read : goal.returns-in_err-line-in-Ok-clause-read
returns-in_err-line-in-Ok-clause-read g c =
    read_memory _ c.from_residual-in_err-line-in-Ok.ensures.1 c.in_ok-joined.ensures.calm

pub returns-in-Ok-clause-read : goal.returns-in-Ok-clause-read
returns-in-Ok-clause-read g c = c.in_ok-joined.ensures.calm

pub returns-clause-read : goal.returns-clause-read
returns-clause-read g c =
    tells_in_calm _ _ _ _ c.refused_in.result c.refused_in.ensures c.in_ok-joined.ensures.calm
