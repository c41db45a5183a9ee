use Rattle.std.proofs.Common.{◌≡◌, ℕ, ◌+◌, ◌<◌, length, drop, slice_index_or, Option, is_some, ap, sym}
use Rattle.std.proofs.Common.{◌∙◌, arith}
use Rattle.std.proofs.lemmas.List.{at_drop_all}
use Rattle.image_reports.specs.Below.{Arg, ByteMap}
use Rattle.image_reports.proofs.certificates_lemmas.Below.{no_slot}
use Rattle.image_reports.specs.certificates.KnownImage.{marks_with_one, marks_with_given, with_unknown}
use Rattle.image_reports.proofs.certificates_lemmas.LoadedLemmas.{marks_with_given-next, forgotten, left_known}
use Rattle.image_reports.proofs.certificates.loading.forget_unknown.Goals as goal
use Rattle.image_reports.proofs.certificates.loading.forget_unknown.Goals.{then-is_none, else-is_none}

pub loop-index-preserved : goal.loop-index-preserved
loop-index-preserved g c =
    let slots = c.args.slots.now in
    let given = c.args.given.now in
    let frame = c.args.frame in
    let i = c.loop-index.index in
    let one = c.index-given-index.result in
    let slot = slice_index_or slots i no_slot in
    let before = g.M.Memory.bytes c.loop-index.known.marks in
    let below : i < length given = omega (arith, c.loop-index-test.true, c.requires.count) in
    let known : g.M.Memory.bytes c.if-is_none.known.marks ≡ marks_with_one frame before slot one =
    elim c.if-is_none.branch [
      | then-is_none w ↦
          ap (λ k. g.M.Memory.bytes k.marks) w.known-is ∙ w.forget_bytes.ensures.bytes
          ∙ ap (λ n. with_unknown before n (frame + slot.offset)) w.argument_bytes.ensures
          ∙ forgotten frame before slot one c.is_none.result c.is_none.ensures w.if-is_none.true
      | else-is_none w ↦ ap (λ k. g.M.Memory.bytes k.marks) w.known-is
          ∙ left_known frame before slot one c.is_none.result c.is_none.ensures w.if-is_none.false
    ] in
    let extent : (x : ℕ) → is_some (g.M.Memory.bytes c.if-is_none.known.marks x)
    ≡ is_some (g.M.Memory.bytes c.loop-index.known.marks x) =
    elim c.if-is_none.branch [
      | then-is_none w ↦ λ x. ap (λ k. is_some (g.M.Memory.bytes k.marks x)) w.known-is
          ∙ w.forget_bytes.ensures.extent x
      | else-is_none w ↦ λ x. ap (λ k. is_some (g.M.Memory.bytes k.marks x)) w.known-is
    ] in
    let registers : c.if-is_none.known.registers ≡ c.loop-index.known.registers =
    elim c.if-is_none.branch [
      | then-is_none w ↦ ap (λ k. k.registers) w.known-is ∙ w.forget_bytes.ensures.registers
      | else-is_none w ↦ ap (λ k. k.registers) w.known-is
    ] in
    let shifts : c.if-is_none.known.shifts ≡ c.loop-index.known.shifts =
    elim c.if-is_none.branch [
      | then-is_none w ↦ ap (λ k. k.shifts) w.known-is ∙ w.forget_bytes.ensures.shifts
      | else-is_none w ↦ ap (λ k. k.shifts) w.known-is
    ] in
    record {
      rest =
          ap (λ (k : ByteMap). marks_with_given frame k (drop (i + 1) slots) (drop (i + 1) given)) known
          ∙ (ap (λ (o : Option Arg). marks_with_given frame (marks_with_one frame before slot o) (drop (i + 1) slots)
          (drop (i + 1) given)) c.index-given-index.is
          ∙ (sym (marks_with_given-next frame before slots given i no_slot one c.loop-index-test.true below)
          ∙ c.loop-index.invariant.rest));
      data_there = λ x. extent x ∙ c.loop-index.invariant.data_there x;
      registers = registers ∙ c.loop-index.invariant.registers;
      shifts = shifts ∙ c.loop-index.invariant.shifts;
    }

pub returns-clause-bytes : goal.returns-clause-bytes
returns-clause-bytes g c =
    let l = c.loop-index in
    let left = drop l.index c.args.given.now in
    sym (at_drop_all (λ slots. marks_with_given c.args.frame (g.M.Memory.bytes l.known.marks) slots left)
    c.args.slots.now l.index c.loop-index-test.false)
    ∙ l.invariant.rest
