use Rattle.std.proofs.Common.{◌∙◌, ℕ, Global, List, Vec, ap, map, refl, rules, subst, sym}
use Rattle.commands.specs.Answered.{answered}
use Rattle.commands.specs.Sources.{no_memory}
use Rattle.commands.specs.Violations.{fault_lines, SaysViolations}
use Rattle.commands.proofs.AnswerLemmas.{finds_answer, finds_converted, finds_fault}
use Rattle.commands.proofs.ViolationLemmas.{says_none, says_some}
use Rattle.commands.proofs.violations.check_all.Goals as goal

pub returns-in_err-found-clause-finds : goal.returns-in_err-found-clause-finds
returns-in_err-found-clause-finds g c = λ tells.
    finds_fault _ _ c.from_residual.ensures.1 (c.in_err-found.ensures.refused tells, refl)

pub returns-in_err-line-clause-finds : goal.returns-in_err-line-clause-finds
returns-in_err-line-clause-finds g c = λ tells.
    finds_converted _ c.from_residual-in_err-line.ensures.1 (λ e memory. (no_memory memory, refl))

pub returns-in_err-lines-clause-finds : goal.returns-in_err-lines-clause-finds
returns-in_err-lines-clause-finds g c = λ tells.
    finds_converted _ c.from_residual-in_err-lines.ensures.1 (λ e memory. (no_memory memory, refl))

pub returns-then-is_empty-clause-finds : goal.returns-then-is_empty-clause-finds
returns-then-is_empty-clause-finds g c = λ tells.
    finds_answer _ (c.of_text.ensures.text ∙ c.in_ok-line.ensures.ok) c.of_text.ensures.status
    (says_none c.in_ok-found.found.items (search rules) (c.in_ok-found.ensures.found tells)) refl

pub returns-clause-finds : goal.returns-clause-finds
returns-clause-finds g c = λ tells.
    let lines = ap (λ (v : Vec ℕ Global). v.items) c.into_bytes.ensures.value ∙ c.in_ok-lines.ensures
    ∙ ap fault_lines c.as_slice.ensures.value in
    answered
    (subst
    (λ (text : List ℕ).
    SaysViolations c.args.explain c.args.profile (g.F.Files.store c.args.files.now).contents
    (map (λ path. path.now) c.args.libraries.now) c.args.file.now text 1)
    (sym lines) (says_some c.in_ok-found.found.items (search rules) (c.in_ok-found.ensures.found tells))) refl
