use Rattle.std.proofs.Common.{◌≡◌, ℕ, ◌+◌, ◌≤◌, List, Some, ap, ap₂, ◌∙◌, arith}
use Rattle.intervals.specs.Below.{value_nodes}
use Rattle.intervals.specs.Ranged.{RangedProgram}
use Rattle.intervals.specs.Work.{body_work, work_of}
use Rattle.intervals.specs.Limits.{most_work}
use Rattle.intervals.proofs.RefusalLemmas.{above_limit, named_above_limit, too_much}
use Rattle.intervals.proofs.ranges.with_work.Goals as goal

pub new-requires : goal.new-requires
new-requires c =
    let p = c.args.flat.now in
    let iterations = c.requires.iterations in
    let same = ap (λ ts. body_work ts p.body + value_nodes p.value) (c.as_slice.ensures.value ∙ iterations) in
    let made : List ℕ → ℕ → RangedProgram = λ ts w. record { flat = p; iterations = ts; work = w } in
    let few : c.program_work-work.result ≤ most_work = omega (arith, c.if-work-gt-MOST_WORK.false) in
    let work : c.program_work-work.result ≡ work_of p = omega (arith, few, c.program_work-work.ensures, same) in
    record {
      counted = ap₂ made iterations work;
      worked = few;
      safe = c.requires.safe;
    }

pub returns-then-work-gt-MOST_WORK-clause-refused : goal.returns-then-work-gt-MOST_WORK-clause-refused
returns-then-work-gt-MOST_WORK-clause-refused c =
    let p = c.args.flat.now in
    let same = ap (λ ts. body_work ts p.body + value_nodes p.value)
    (c.as_slice.ensures.value ∙ c.requires.iterations) in
    let many : work_of p ≤ most_work → ⊥ = λ few. omega (arith, same, few, c.if-work-gt-MOST_WORK.true, c.program_work-work.ensures) in (
      too_much p,
      above_limit p many,
      named_above_limit p many,
      record {
        rule = c.of.ensures.rule ∙ c.too_much_work.ensures.rule;
        place = c.of.ensures.place ∙ ap Some c.too_much_work.ensures.place;
        why = c.of.ensures.why ∙ c.too_much_work.ensures.why;
      },
    )
