use Rattle.std.proofs.Common.{List, ℕ, ◌∙◌, subst}
use Rattle.commands.specs.Below.{IsBuilt}
use Rattle.commands.specs.Judged.{no_sources}
use Rattle.language.proofs.Handed.{handed_on}
use Rattle.commands.proofs.Counting.{tells_in_calm}
use Rattle.commands.proofs.SourceLemmas.{refused_as_lent, refused_in_sources}
use Rattle.commands.proofs.texts.image_of_text.Goals as goal

pub returns-in_err-joined-clause-refused : goal.returns-in_err-joined-clause-refused
returns-in_err-joined-clause-refused g c = λ tells.
    handed_on _ _ c.from_residual.ensures.1 (no_sources (c.in_err-joined.ensures.refused tells))

pub returns-in_err-joined-clause-counted : goal.returns-in_err-joined-clause-counted
returns-in_err-joined-clause-counted g c = handed_on _ _ c.from_residual.ensures.1 c.in_err-joined.ensures.counted

pub returns-in-Ok-clause-said : goal.returns-in-Ok-clause-said
returns-in-Ok-clause-said g c = λ tells.
    let read = c.in_ok-joined.ensures.said tells in
    let options = c.args.options in
    record {
      libraries = read.libraries;
      text = read.last;
      held = read.holds;
      built =
          subst (λ (source : List ℕ). IsBuilt options.optimisation options.profile source c.in-Ok.image.items)
          (c.as_str-text.ensures.value ∙ read.is) c.in-Ok.ensures.accepted;
    }

pub returns-clause-refused : goal.returns-clause-refused
returns-clause-refused g c = λ tells.
    refused_in_sources (c.in_ok-joined.ensures.said tells)
    (refused_as_lent c.as_str-text.ensures.value c.as_slice-read.ensures.value c.in-Err.ensures.refused
    c.refused_in.ensures)

pub returns-clause-counted : goal.returns-clause-counted
returns-clause-counted g c =
    tells_in_calm _ _ _ _ c.refused_in.result c.refused_in.ensures c.in_ok-joined.ensures.calm
