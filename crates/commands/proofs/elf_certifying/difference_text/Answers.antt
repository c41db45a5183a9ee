use Rattle.std.proofs.Common.{ℕ, List, ◌++◌, ap, ◌∙◌, codes, subst}
use Rattle.std.specs.Fmt.{decimal}
use Rattle.commands.specs.Below.{LeadThere, machine_program, place_line, state_at_start}
use Rattle.commands.proofs.ExecutableLemmas.{line_of_something}
use Rattle.commands.proofs.elf_certifying.difference_text.Goals as goal

pub returns-clause-text : goal.returns-clause-text
returns-clause-text c =
    let program = c.args.program.now in
    let asked = c.args.asked.now in
    let calls = c.in_ok-calls.calls.items in
    let line = c.in_ok-line.line.items in
    let head = codes "may differ at " ++ decimal c.args.entry ++ codes "\n" in
    let shown = line_of_something c.in_ok-line.ensures c.requires in (
      shown.0,
      line,
      calls,
      shown.1,
      shown.2,
      subst
          (λ (n : ℕ). LeadThere (machine_program program asked c.args.options.profile) (state_at_start program asked) n
          calls) c.saturating_sub.ensures c.in_ok-calls.ensures.calls,
      c.in_ok-push_place.ensures
          ∙ ap (λ (front : List ℕ). front ++ place_line program c.args.pc c.as_slice-2.result.now)
          (c.in_ok-extend_from_slice.ensures.items
          ∙ ap (λ (front : List ℕ). front ++ c.as_slice.result.now) c.in_ok-text.ensures
          ∙ ap (λ (shown : List ℕ). head ++ shown) c.as_slice.ensures.value)
          ∙ ap (λ (leading : List ℕ). head ++ line ++ place_line program c.args.pc leading) c.as_slice-2.ensures.value,
    )
