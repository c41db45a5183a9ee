use Rattle.std.proofs.Common.{List, ℕ, Ok, refl, ap, subst}
use Rattle.std.specs.Option.{IfSome}
use Rattle.std.specs.String.{string_bytes}
use Rattle.commands.specs.Below.{BeginsOtherwise, IsFaultOf, SaysFields}
use Rattle.commands.specs.Costs.{not_read}
use Rattle.commands.proofs.AnswerLemmas.{finds_answer, finds_fault, read_fault}
use Rattle.commands.proofs.MeasuringLemmas.{image_costs, image_faulty, no_paths}
use Rattle.commands.proofs.measuring.file_costs.Goals as goal

pub returns-in_err-bytes-clause-finds : goal.returns-in_err-bytes-clause-finds
returns-in_err-bytes-clause-finds g c = λ tells libraries none.
    finds_fault _ _ c.from_residual.ensures.1 (not_read (no_paths none) c.in_err-bytes.ensures.fault, refl)

pub returns-in_err-bytes-clause-read : goal.returns-in_err-bytes-clause-read
returns-in_err-bytes-clause-read g c = read_fault _ _ _ _ c.from_residual.ensures.1 c.in_err-bytes.ensures.counted

pub returns-in_err-lines-clause-read : goal.returns-in_err-lines-clause-read
returns-in_err-lines-clause-read g c =
    read_fault _ _ _ _ c.from_residual-in_err-lines.ensures.1 c.in_ok-bytes.ensures.calm

pub returns-in_err-lines-clause-finds : goal.returns-in_err-lines-clause-finds
returns-in_err-lines-clause-finds g c = λ tells libraries none.
    let files = (g.F.Files.store c.args.files.now).contents in
    let bytes = c.in_ok-bytes.bytes.items in
    let fault = c.in_err-lines.field-0.0 in
    let why = subst (λ (b : List ℕ). IsFaultOf b fault) c.as_slice.ensures.value c.in_err-lines.ensures.refused in
    finds_fault _ _ c.from_residual-in_err-lines.ensures.1
    (image_faulty c.args.profile files c.args.file.now bytes fault (no_paths none) (c.in_ok-bytes.ensures.begins tells) why, refl)

pub returns-in-Some-clause-finds : goal.returns-in-Some-clause-finds
returns-in-Some-clause-finds g c = λ tells libraries none.
    let lines = string_bytes c.in-Some.lines in
    let shown = subst (λ o. IfSome o (λ text. SaysFields c.as_slice.result.now (string_bytes text))) c.in-Some.is
    c.in_ok-lines.ensures.said in
    let said = subst (λ (b : List ℕ). SaysFields b lines) c.as_slice.ensures.value shown in
    finds_answer _ c.of_text.ensures.text c.of_text.ensures.status (
      image_costs c.args.optimisation c.args.profile (g.F.Files.store c.args.files.now).contents c.args.file.now
          c.in_ok-bytes.bytes.items lines (no_paths none) (c.in_ok-bytes.ensures.begins tells) said,
      refl,
    ) refl

pub returns-in-Some-clause-read : goal.returns-in-Some-clause-read
returns-in-Some-clause-read g c = c.in_ok-bytes.ensures.calm

pub returns-clause-finds : goal.returns-clause-finds
returns-clause-finds g c = λ tells libraries none.
    c.source_costs.ensures.finds _ libraries none (c.in_ok-bytes.ensures.begins tells)
    (subst BeginsOtherwise c.as_slice.ensures.value (c.in_ok-lines.ensures.other (ap Ok c.in-None.is)))

pub returns-clause-read : goal.returns-clause-read
returns-clause-read g c =
    rw c.in_ok-bytes.ensures.calm (c.source_costs.ensures.read (g.F.Files.store c.args.files.now))
