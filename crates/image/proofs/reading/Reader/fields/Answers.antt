use Rattle.std.proofs.Common.{◌≡◌, Ok, ap, sym, ◌∙◌}
use Rattle.image.specs.Reading.{image_format}
use Rattle.image.specs.private.Following.{ahead}
use Rattle.image.proofs.Images.{image_read}
use Rattle.image.proofs.Texts.{read_text}
use Rattle.image.proofs.reading.Reader.fields.Goals as goal
use Rattle.image.specs.Below.{Fields, slots_end}

pub new-requires : goal.new-requires
unfolding image_format
new-requires c =
    let low : c.end_of-low.result ≡ slots_end 0 c.in_ok-slots.slots.items = c.end_of-low.ensures
    ∙ ap (slots_end 0) c.deref.ensures.value in
    let image : Fields = record {
      profile = c.profile_of-profile.result;
      slots = c.in_ok-slots.slots.items;
      returned = c.in_ok-returned.returned;
      frame_bytes = c.in_ok-frame_bytes.field-0;
      max_steps = c.in_ok-max_steps.max_steps;
      words = c.in_ok-words.words.items;
    } in
    let is : ahead image_format c.args.self.now ≡ Ok image =
    c.in_ok-take.ensures.leads _ ∙ c.in_ok-take-2.ensures.leads _ ∙ c.in_ok-take-3.ensures.leads _
    ∙ c.in_ok-count.ensures.leads _ ∙ c.in_ok-slots.ensures _
    ∙ (rw low at c.in_ok-returned.ensures) _
    ∙ (rw (c.layout_end.ensures, low) at c.in_ok-frame_bytes.ensures.leads) _
    ∙ c.in_ok-max_steps.ensures.leads _ ∙ c.in_ok-count-2.ensures.leads _ ∙ c.in_ok-words.ensures _
    ∙ rw (sym c.profile_of-profile.ensures) (c.in_ok-end.ensures image) in
    let bytes = c.args.self.now.left.now in
    (image_read bytes image (read_text c.args.self.now.total image_format bytes image c.requires is)).0
