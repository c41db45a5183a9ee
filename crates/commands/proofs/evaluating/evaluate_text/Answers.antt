use Rattle.std.proofs.Common.{List, map, Err, refl, ap, ◌∙◌, subst, arith}
use Rattle.commands.specs.Answered.{not_answered}
use Rattle.commands.specs.Below.{answer, fault_of_texts, Means, P1, Param, program_tree, Results}
use Rattle.commands.specs.Judged.{no_sources}
use Rattle.commands.specs.Meanings.{evaluation_budget, not_accepted, no_arguments, out_of_memory}
use Rattle.commands.specs.OutcomeText.{outcome_text}
use Rattle.commands.specs.Words.{IsFaultOfWords}
use Rattle.commands.specs.declared.fault.Fault.TheVariants.{Eval}
use Rattle.commands.proofs.AnswerLemmas.{finds_answer, finds_fault, finds_converted, read_fault, read_memory}
use Rattle.commands.proofs.Counting.{tells_in_calm}
use Rattle.commands.proofs.MeaningLemmas.{program_held, only_memory, same_outcome, answered}
use Rattle.commands.proofs.SourceLemmas.{refused_as_lent, refused_in_sources}
use Rattle.commands.proofs.WordLemmas.{fault_of_words, spelled_from}
use Rattle.commands.proofs.evaluating.evaluate_text.Goals as goal

pub returns-in_err-joined-clause-finds : goal.returns-in_err-joined-clause-finds
returns-in_err-joined-clause-finds g c = λ tells.
    finds_fault _ _ c.from_residual.ensures.1 (not_accepted (no_sources (c.in_err-joined.ensures.refused tells)), refl)

pub returns-in-Err-clause-finds : goal.returns-in-Err-clause-finds
returns-in-Err-clause-finds g c = λ tells.
    not_answered (
      not_accepted (refused_in_sources (c.in_ok-joined.ensures.said tells)
          (refused_as_lent c.as_str-text.ensures.value c.as_slice-read.ensures.value c.in-Err.ensures.refused
          c.refused_in.ensures)),
      refl,
    )

pub returns-in_err-args-clause-finds : goal.returns-in_err-args-clause-finds
returns-in_err-args-clause-finds g c = λ tells.
    let words = map (λ word. word.now) c.args.arguments.now in
    let why = c.in_err-args.field-0.0 in
    let ok = c.in-Ok.ensures.accepted in
    let held = program_held (c.in_ok-joined.ensures.said tells) c.as_str-text.ensures.value ok.2 in
    finds_fault _ _ c.from_residual-in_err-args.ensures.1 (
      no_arguments held
          (subst (λ (params : List Param). IsFaultOfWords (fault_of_texts params words) why)
          (c.as_slice-params.ensures.value ∙ ok.3)
          (fault_of_words _ why (Err why) refl c.in_err-args.ensures.fault c.in_err-args.ensures.unstopped)),
      refl,
    )

pub returns-in_err-outcome-clause-finds : goal.returns-in_err-outcome-clause-finds
returns-in_err-outcome-clause-finds g c = λ tells.
    let ok = c.in-Ok.ensures.accepted in
    let program = program_tree c.in-Ok.accepted.program in
    let spelled = spelled_from c.args.arguments.now (λ word. word.now) (c.as_slice-params.ensures.value
    ∙ ok.3) c.in_ok-args.ensures.within c.in_ok-args.ensures.found in
    let meant = c.accepted_sources_are_evaluated.ensures P1 c.as_str-text.result.now program ok.0 ok.1 c.in_ok-args.args
    evaluation_budget ok.2 spelled.within (omega arith) in
    finds_fault _ _ c.from_residual-in_err-outcome.ensures.1 (
      out_of_memory {fault = Eval c.in_err-outcome.field-0.0}
          (only_memory c.in_err-outcome.field-0.0 (answer program c.in_ok-args.args evaluation_budget) meant.0
          meant.2 c.in_err-outcome.ensures.answer),
      refl,
    )

pub returns-in_err-lines-clause-finds : goal.returns-in_err-lines-clause-finds
returns-in_err-lines-clause-finds g c = λ tells.
    finds_converted _ c.from_residual-in_err-lines.ensures.1 (λ e memory. (out_of_memory memory, refl))

pub returns-clause-finds : goal.returns-clause-finds
returns-clause-finds g c = λ tells.
    let ok = c.in-Ok.ensures.accepted in
    let program = program_tree c.in-Ok.accepted.program in
    let args = c.in_ok-args.args in
    let outcome = c.in_ok-outcome.outcome in
    let same = c.as_slice-params.ensures.value ∙ ok.3 in
    let spelled = spelled_from c.args.arguments.now (λ word. word.now) same c.in_ok-args.ensures.within
    c.in_ok-args.ensures.found in
    let meant = c.accepted_sources_are_evaluated.ensures P1 c.as_str-text.result.now program ok.0 ok.1 args evaluation_budget
    ok.2 spelled.within (omega arith) in
    let is = same_outcome outcome meant.0 (answer program args evaluation_budget) meant.2
    c.in_ok-outcome.ensures.answer in
    finds_answer _ (c.of_text.ensures.text ∙ c.in_ok-lines.ensures
    ∙ ap (λ (params : List Param). outcome_text params outcome) same) c.of_text.ensures.status (
      record {
        program = program;
        export = ok.1;
        args = args;
        outcome = outcome;
        held = program_held (c.in_ok-joined.ensures.said tells) c.as_str-text.ensures.value ok.2;
        spelled = spelled;
        means = subst (λ (results : Results). Means program args results) is meant.1;
        within = answered outcome meant.0 (answer program args evaluation_budget) meant.2 is;
        printed = refl;
      },
      refl,
    ) refl

pub returns-in_err-joined-clause-read : goal.returns-in_err-joined-clause-read
returns-in_err-joined-clause-read g c = read_fault _ _ _ _ c.from_residual.ensures.1 c.in_err-joined.ensures.counted

pub returns-in_err-args-clause-read : goal.returns-in_err-args-clause-read
returns-in_err-args-clause-read g c = read_fault _ _ _ _ c.from_residual-in_err-args.ensures.1 c.in_ok-joined.ensures.calm

pub returns-in_err-outcome-clause-read : goal.returns-in_err-outcome-clause-read
returns-in_err-outcome-clause-read g c =
    read_fault _ _ _ _ c.from_residual-in_err-outcome.ensures.1 c.in_ok-joined.ensures.calm

pub returns-in_err-lines-clause-read : goal.returns-in_err-lines-clause-read
returns-in_err-lines-clause-read g c = read_memory _ c.from_residual-in_err-lines.ensures.1 c.in_ok-joined.ensures.calm

pub returns-in-Err-clause-read : goal.returns-in-Err-clause-read
returns-in-Err-clause-read g c =
    tells_in_calm _ _ _ _ c.refused_in.result c.refused_in.ensures c.in_ok-joined.ensures.calm

pub returns-clause-read : goal.returns-clause-read
returns-clause-read g c = c.in_ok-joined.ensures.calm
