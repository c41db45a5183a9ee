use Rattle.std.proofs.Common.{sym, append_assoc}
use Rattle.image.proofs.writing.put_fields.Goals as goal

pub returns : goal.returns
returns c =
    rw (
      c.in_ok-put_words.ensures,
      c.in_ok-put-7.ensures,
      c.in_ok-put-6.ensures,
      c.in_ok-put-5.ensures,
      c.in_ok-put_returned.ensures,
    )
    (rw (
      c.in_ok-put_slots.ensures,
      c.in_ok-put-4.ensures,
      c.in_ok-put-3.ensures,
      c.in_ok-put-2.ensures,
      c.in_ok-put.ensures,
    )
    (rw (
      sym c.profile.ensures.profile,
      sym c.number_of.ensures,
      sym c.slots-slots.ensures.slots,
      sym c.returned.ensures.returned,
    )
    (rw (sym c.frame_bytes.ensures.bytes, sym c.max_steps.ensures.steps, sym c.words-words.ensures.words)
    (simp append_assoc))))
