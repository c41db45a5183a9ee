-- The run is made again up to its last step before the place, and then on to the place.
use Rattle.std.proofs.Common.{◌≡◌, ℕ, ◌-◌, ◌++◌, codes, List, sym, ap, ◌∙◌, subst, arith}
use Rattle.image_reports.specs.Below.{code_at, code_base, code_of, frame_base, loaded_at, paged_bytes, State, state_of}
use Rattle.rv_machine.specs.Leakage.{Leads}
use Rattle.image_reports.specs.pair_explanations.Explained.{shown_line, SaysOf}
use Rattle.image_reports.proofs.pair_explanations_lemmas.Saying.{said}
use Rattle.image_reports.proofs.pair_explanations.explaining.said_of_run.Goals as goal

pub returns : goal.returns
returns c =
    let image = c.args.image.now in
    let place = c.args.place in
    let code = code_of c.args.code.now in
    let whole = c.in_ok-whole.whole in
    let again = c.in_ok-again.again in
    let moved = c.make_steps.new.running in
    let first = state_of whole.hart (paged_bytes whole.memory) in
    let second = state_of again.hart (paged_bytes again.memory) in
    let there = state_of moved.hart (paged_bytes moved.memory) in
    let before = c.in-Some.before in
    let found = c.in-Some.ensures.found in
    let seen = found.0 in
    let registers = c.in_ok-text.text.items in
    let shown = c.shown_at-shown.result in
    let text = c.push_shown.new.text.items in
    let same : first ≡ second = c.in_ok-whole.ensures.state ∙ sym c.in_ok-again.ensures.state in
    let led : Leads code before.steps second seen found.1 =
    subst (λ (s : State). Leads code before.steps s seen found.1) same
    (subst (λ (n : ℕ). Leads code n first seen found.1) (sym found.3) found.2.leads) in
    let rest : moved.steps_left ≡ whole.steps_left - before.steps =
    omega (arith, c.make_steps.ensures.left, c.in_ok-again.ensures.steps, c.in_ok-whole.ensures.steps) in
    let printed : text ≡ registers ++ codes " " ++ shown_line shown =
    c.in_ok-push_shown.ensures ∙ ap (λ (l : List ℕ). l ++ shown_line shown) c.in_ok-extend_from_slice.ensures.items in (
      seen,
      subst (λ (pc : ℕ). SaysOf image c.args.args.now place seen pc text) (sym c.pc-pc.ensures)
          (said code (code_at code_base image) whole.steps_left image.max_steps first
          (loaded_at code_base frame_base image c.args.args.now)
          c.requires.code c.in_ok-whole.ensures.steps c.in_ok-whole.ensures.state place seen found.1 there
          before.steps before.entries moved.steps_left registers text shown
          found.2 found.3 found.4 (c.make_steps.ensures.there seen found.1 led) rest
          (c.in_ok-text.ensures (paged_bytes moved.memory)) c.shown_at-shown.ensures printed),
    )
