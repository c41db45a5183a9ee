-- The lines of one step more.
use Rattle.std.proofs.Common.{◌≡◌, ◌++◌, ◌∷◌, [], ℕ, ◌+◌, List, get_or, drop, None, sym, ap, ◌∙◌, append_assoc}
use Rattle.std.proofs.lemmas.List.{drop_more}
use Rattle.commands.specs.HartsText.{behind, shown_text}
use Rattle.commands.specs.Below.{HartObservation, lines_of}
use Rattle.commands.proofs.side_by_side.push_shown.Goals as goal

one_more : (text text' before shown rest all : List ℕ) → text' ≡ text ++ shown → all ≡ shown ++ rest
    → text ++ all ≡ before → text' ++ rest ≡ before
one_more text text' before shown rest all put is h =
    ap (λ t. t ++ rest) put ∙ append_assoc text shown rest ∙ ap (λ more. text ++ more) (sym is) ∙ h

pub loop-step-preserved : goal.loop-step-preserved
loop-step-preserved c =
    let seen = c.args.seen.now in
    let step : HartObservation =
    get_or seen c.loop-step.step-index (record { hart = 0; observation = record { pc = 0; event = None } }) in
    let shown : c.as_slice.result.now ≡ lines_of (step.observation ∷ []) = c.as_slice.ensures.value
    ∙ c.lines_of-lines.ensures in
    let put : c.push_lines.new.text.items ≡ c.loop-step.text.items
    ++ behind step.hart (lines_of (step.observation ∷ [])) =
    c.in_ok-push_lines.ensures ∙ ap (λ lines. c.loop-step.text.items ++ behind step.hart lines) shown in
    one_more c.loop-step.text.items c.push_lines.new.text.items _
    (behind step.hart (lines_of (step.observation ∷ []))) (shown_text (drop (c.loop-step.step-index + 1) seen))
    (shown_text (drop c.loop-step.step-index seen)) put
    (ap shown_text (drop_more seen c.loop-step.step-index
    (record { hart = 0; observation = record { pc = 0; event = None } }) c.loop-step-test.true))
    c.loop-step.invariant
