use Rattle.std.proofs.Common.{List, ℕ, ◌∙◌, subst}
use Rattle.std.specs.String.{string_bytes}
use Rattle.commands.specs.Below.{numbered_of}
use Rattle.commands.specs.FunctionFiles.{not_accepted}
use Rattle.commands.specs.Judged.{no_sources}
use Rattle.functions.specs.function_text.Texts.{AreTextsOf}
use Rattle.language.proofs.Handed.{handed_on}
use Rattle.commands.proofs.FunctionFaults.{fault_calm, fault_of_sources}
use Rattle.commands.proofs.function_files.function_texts.Goals as goal

pub returns-in_err-joined-clause-refused : goal.returns-in_err-joined-clause-refused
returns-in_err-joined-clause-refused g c = λ tells.
    handed_on _ _ c.from_residual.ensures.1 (not_accepted (no_sources (c.in_err-joined.ensures.refused tells)))

pub returns-in-Ok-clause-said : goal.returns-in-Ok-clause-said
returns-in-Ok-clause-said g c = λ tells.
    let read = c.in_ok-joined.ensures.said tells in
    let texts = c.in-Ok.texts in
    let options = c.args.options.now in
    record {
      libraries = read.libraries;
      text = read.last;
      held = read.holds;
      made =
          subst (λ (source : List ℕ). AreTextsOf options.compile.optimisation options.compile.profile
          options.prefix.text.now options.notation source (string_bytes texts.assembler) (string_bytes texts.header))
          (c.as_str-text.ensures.value ∙ read.is) c.in-Ok.ensures.made;
    }

pub returns-clause-refused : goal.returns-clause-refused
returns-clause-refused g c = λ tells.
    fault_of_sources c.in-Err.fault (c.in_ok-joined.ensures.said tells) c.as_str-text.ensures.value
    c.as_slice-read.ensures.value c.in-Err.ensures.fault c.fault_in.ensures

pub returns-in_err-joined-clause-counted : goal.returns-in_err-joined-clause-counted
returns-in_err-joined-clause-counted g c =
    handed_on _ _ c.from_residual.ensures.1 c.in_err-joined.ensures.counted

pub returns-clause-counted : goal.returns-clause-counted
returns-clause-counted g c =
    fault_calm c.args.options.now.compile.explain c.as_str-text.result.now (numbered_of c.as_slice-read.result.now)
    c.in-Err.fault c.fault_in.result c.fault_in.ensures c.in_ok-joined.ensures.calm
