-- The lines stand one after another, each with what the image says.
use Rattle.std.proofs.Common.{◌≡◌, ◌++◌, List, ℕ, length, ap, ◌∙◌}
use Rattle.std.proofs.lemmas.Result.{on_ok_weaker}
use Rattle.std.specs.String.{string_bytes}
use Rattle.image_reports.specs.statistics.FieldsText.{profile_number, sizes_text, slot_lines, returned_line}
use Rattle.image_reports.proofs.statistics_lemmas.Joined.{joined}
use Rattle.image_reports.proofs.statistics.fields.push_fields.Goals as goal

pub returns : goal.returns
returns c =
    let image = c.args.image.now in
    let old = string_bytes c.args.text.now in
    let sizes : List ℕ = sizes_text (profile_number image.profile) (length image.words) image.frame_bytes
    image.max_steps in
    let profile = c.profile_number-profile.ensures ∙ ap profile_number c.profile.ensures.profile in
    let one : string_bytes c.push_sizes.new.text ≡ old ++ sizes =
    rw (profile, c.words.ensures.words, c.frame_bytes.ensures.bytes, c.max_steps.ensures.steps) at
    c.in_ok-push_sizes.ensures in
    let two : string_bytes c.push_slots.new.text ≡ string_bytes c.push_sizes.new.text ++ slot_lines 0 image.slots =
    rw c.slots.ensures.slots at c.in_ok-push_slots.ensures in
    on_ok_weaker c.push_returned.result
    (λ three. joined old sizes (slot_lines 0 image.slots) (returned_line image.returned) _ _ _ one two
    (rw c.returned.ensures.returned at three)) c.push_returned.ensures
