use Rattle.std.proofs.Common.{ℕ, List, Vec, Global, Err, map, refl, sym, ap, ◌∙◌, subst}
use Rattle.std.proofs.lemmas.Str.{IsUtf8-string_bytes}
use Rattle.std.specs.String.{string_bytes}
use Rattle.commands.specs.Answered.{answered, not_answered}
use Rattle.commands.specs.Below.{IsReport, NamedVector}
use Rattle.image_reports.specs.vectors.Views.{named}
use Rattle.commands.specs.Sources.{joined}
use Rattle.commands.specs.Vectors.{no_source, no_lines}
use Rattle.commands.proofs.AnswerLemmas.{finds_fault, read_fault}
use Rattle.commands.proofs.Counting.{tells_in_calm}
use Rattle.commands.proofs.SourceLemmas.{refused_as_lent}
use Rattle.commands.proofs.VectorLemmas.{both_held, unsaid, untried}
use Rattle.commands.proofs.trying.try_file.Goals as goal

pub returns-in_err-joined-clause-finds : goal.returns-in_err-joined-clause-finds
returns-in_err-joined-clause-finds g c = λ tells.
    finds_fault _ _ c.from_residual.ensures.1 (no_source (c.in_err-joined.ensures.refused tells), refl)

pub returns-in_err-lines-clause-finds : goal.returns-in_err-lines-clause-finds
returns-in_err-lines-clause-finds g c = λ tells.
    let read = c.in_ok-joined.ensures.said tells in
    finds_fault _ _ c.from_residual-in_err-lines.ensures.1 (
      no_lines read.holds (rw c.in_ok-joined.ensures.calm at (c.in_err-lines.ensures.refused tells)),
      refl,
    )

pub returns-in_err-vectors-clause-finds : goal.returns-in_err-vectors-clause-finds
returns-in_err-vectors-clause-finds g c = λ tells.
    finds_fault _ _ c.from_residual-in_err-vectors.ensures.1 (
      unsaid c.in_err-vectors.field-0.0 (c.in_ok-joined.ensures.said tells)
          (rw c.in_ok-joined.ensures.calm at (c.in_ok-lines.ensures.said tells))
          c.in_ok-lines.ensures.short
          (λ line is. rw (sym c.as_str.ensures.value) (c.in_err-vectors.ensures.fault line (ap Err is)))
          (λ is. rw (sym c.as_str.ensures.value) (c.in_err-vectors.ensures.long (ap Err is))),
      refl,
    )

pub returns-clause-finds : goal.returns-clause-finds
returns-clause-finds g c = λ tells.
    let read = c.in_ok-joined.ensures.said tells in
    not_answered (
      untried read
          (both_held read (rw c.in_ok-joined.ensures.calm at (c.in_ok-lines.ensures.said tells))
          c.in_ok-lines.ensures.short (IsUtf8-string_bytes c.in_ok-lines.lines) c.as_str.ensures.value
          c.in_ok-vectors.ensures.vectors)
          (refused_as_lent c.as_str-source.ensures.value c.as_slice-read.ensures.value c.in-Err.ensures.refused
          c.refused_in.ensures),
      refl,
    )

pub returns-in-Ok-clause-finds : goal.returns-in-Ok-clause-finds
returns-in-Ok-clause-finds g c = λ tells.
    let read = c.in_ok-joined.ensures.said tells in
    let report = c.in-Ok.report in
    let vectors = map named c.in_ok-vectors.vectors.items in
    answered (record {
      libraries = read.libraries;
      source = read.last;
      vectors = vectors;
      failures = report.failures;
      held =
          both_held read (rw c.in_ok-joined.ensures.calm at (c.in_ok-lines.ensures.said tells))
          c.in_ok-lines.ensures.short (IsUtf8-string_bytes c.in_ok-lines.lines) c.as_str.ensures.value
          c.in_ok-vectors.ensures.vectors;
      report =
          subst (λ (shown : List ℕ). IsReport c.args.optimisation c.args.profile (joined read.libraries read.last) vectors
          shown report.failures)
          (sym (ap (λ (v : Vec ℕ Global). v.items) c.into_bytes-text.ensures.value))
          (subst (λ (t : List ℕ). IsReport c.args.optimisation c.args.profile t vectors (string_bytes report.text)
          report.failures) (c.as_str-source.ensures.value ∙ read.is)
          (subst (λ (vs : List NamedVector). IsReport c.args.optimisation c.args.profile c.as_str-source.result.now vs
          (string_bytes report.text) report.failures) (ap (map named) c.as_slice.ensures.value)
          c.in-Ok.ensures.report));
      ended = c.status_of-status.ensures.exact;
    }) refl

pub returns-in_err-joined-clause-read : goal.returns-in_err-joined-clause-read
returns-in_err-joined-clause-read g c = read_fault _ _ _ _ c.from_residual.ensures.1 c.in_err-joined.ensures.counted

pub returns-in_err-lines-clause-read : goal.returns-in_err-lines-clause-read
returns-in_err-lines-clause-read g c =
    read_fault _ _ _ _ c.from_residual-in_err-lines.ensures.1
    (rw c.in_ok-joined.ensures.calm at c.in_err-lines.ensures.counted)

pub returns-in_err-vectors-clause-read : goal.returns-in_err-vectors-clause-read
returns-in_err-vectors-clause-read g c =
    read_fault _ _ _ _ c.from_residual-in_err-vectors.ensures.1
    (c.in_ok-lines.ensures.calm ∙ c.in_ok-joined.ensures.calm)

pub returns-in-Ok-clause-read : goal.returns-in-Ok-clause-read
returns-in-Ok-clause-read g c = c.in_ok-lines.ensures.calm ∙ c.in_ok-joined.ensures.calm

pub returns-clause-read : goal.returns-clause-read
returns-clause-read g c =
    tells_in_calm _ _ _ _ c.refused_in.result c.refused_in.ensures
    (c.in_ok-lines.ensures.calm ∙ c.in_ok-joined.ensures.calm)
