use Rattle.std.proofs.Common.{◌≡◌, ◌+◌, ◌<◌, length, drop, slice_index_or, Option, Some, is_some, ap, sym, ◌∙◌, arith}
use Rattle.image_reports.proofs.certificates_lemmas.Below.{fault_from-next, HoldsSlot-same, no_slot}
use Rattle.image_reports.specs.Below.{Arg, ByteMap, HasShape, Slot}
use Rattle.std.proofs.lemmas.List.{at_drop_all, length-map}
use Rattle.image_reports.specs.certificates.Given.{rule_of_given}
use Rattle.image_reports.specs.certificates.KnownImage.{with_one, with_given}
use Rattle.image_reports.proofs.certificates_lemmas.LoadedLemmas.{with_given-next, is_some-with_one, params_in, shape_given, as_many}
use Rattle.image_reports.proofs.certificates.loading.put_given.Goals as goal
use Rattle.image_reports.proofs.certificates.loading.put_given.Goals.{in-Some, in_default}

pub put_argument-requires-clause-data : goal.put_argument-requires-clause-data
put_argument-requires-clause-data g c =
    let i = c.loop-index.index in
    HoldsSlot-same c.args.frame (g.M.Memory.bytes c.args.memory.now) (g.M.Memory.bytes c.loop-index.memory)
    (slice_index_or c.args.slots.now i no_slot) c.loop-index.invariant.data_there
    (c.requires.data i no_slot c.loop-index-test.true)

pub put_argument-requires-clause-shape : goal.put_argument-requires-clause-shape
put_argument-requires-clause-shape g c =
    let slots = c.args.slots.now in
    let given = c.args.given.now in
    let below : c.loop-index.index < length given =
    omega (arith, c.loop-index-test.true, as_many slots given c.requires.faultless) in
    shape_given slots given c.loop-index.index c.index-given-index.result c.in-Some.arg c.loop-index-test.true below
    c.loop-index.invariant.faultless c.index-given-index.is c.in-Some.is

pub loop-index-preserved : goal.loop-index-preserved
loop-index-preserved g c =
    let slots = c.args.slots.now in
    let given = c.args.given.now in
    let i = c.loop-index.index in
    let one = c.index-given-index.result in
    let slot = slice_index_or slots i no_slot in
    let old = g.M.Memory.bytes c.loop-index.memory in
    let new = g.M.Memory.bytes c.match-given-index.memory in
    let below : i < length given = omega (arith, c.loop-index-test.true, as_many slots given c.requires.faultless) in
    let holds = HoldsSlot-same c.args.frame (g.M.Memory.bytes c.args.memory.now) old slot
    c.loop-index.invariant.data_there (c.requires.data i no_slot c.loop-index-test.true) in
    let put : new ≡ with_one c.args.frame old slot one =
    elim c.match-given-index.branch [
      | in-Some w ↦ ap (λ m. g.M.Memory.bytes m) w.memory-is ∙ w.put_argument.ensures
          ∙ sym (ap (λ (o : Option Arg). with_one c.args.frame old slot o) w.in-Some.is)
      | in_default w ↦ ap (λ m. g.M.Memory.bytes m) w.memory-is
          ∙ sym (ap (λ (o : Option Arg). with_one c.args.frame old slot o) w.in_default.is)
    ] in
    let shape : (arg : Arg) → one ≡ Some arg → HasShape slot.param.form slot.param.length arg =
    λ arg some. shape_given slots given i one arg c.loop-index-test.true below c.loop-index.invariant.faultless
    c.index-given-index.is some in
    record {
      rest =
          ap (λ (b : ByteMap). with_given c.args.frame b (drop (i + 1) slots) (drop (i + 1) given)) put
          ∙ (ap (λ (o : Option Arg). with_given c.args.frame (with_one c.args.frame old slot o) (drop (i + 1) slots)
          (drop (i + 1) given)) c.index-given-index.is
          ∙ (sym (with_given-next c.args.frame old slots given i no_slot one c.loop-index-test.true below)
          ∙ c.loop-index.invariant.rest));
      data_there = λ x. ap (λ (b : ByteMap). is_some (b x)) put
          ∙ (is_some-with_one c.args.frame old slot holds one shape x ∙ c.loop-index.invariant.data_there x);
      faultless = fault_from-next rule_of_given i (params_in slots) given
          (omega (arith, c.loop-index-test.true, length-map slots (λ (s : Slot). s.param))) below
          c.loop-index.invariant.faultless;
    }

pub returns-clause-put : goal.returns-clause-put
returns-clause-put g c =
    let l = c.loop-index in
    let left = drop l.index c.args.given.now in
    sym (at_drop_all (λ slots. with_given c.args.frame (g.M.Memory.bytes l.memory) slots left) c.args.slots.now l.index
    c.loop-index-test.false)
    ∙ l.invariant.rest
