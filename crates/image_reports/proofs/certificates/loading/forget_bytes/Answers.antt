use Rattle.std.proofs.Common.{◌+◌, sym, ap, ◌∙◌, refl, arith}
use Rattle.image_reports.specs.Below.{ByteMap}
use Rattle.image_reports.specs.certificates.KnownImage.{with_unknown}
use Rattle.image_reports.proofs.certificates_lemmas.Below.{number_there}
use Rattle.image_reports.proofs.certificates_lemmas.LoadedLemmas.{none_unknown, one_more_unknown, one_unknown}
use Rattle.image_reports.proofs.certificates.loading.forget_bytes.Goals as goal

pub loop-index-init : goal.loop-index-init
loop-index-init g c = record {
  unknown = sym (none_unknown (g.M.Memory.bytes c.args.known.now.marks) c.args.at);
  data_there = λ x. refl;
  registers = refl;
  shifts = refl;
}

pub loop-index-preserved : goal.loop-index-preserved
loop-index-preserved g c =
    let i = c.loop-index.index in
    let place = c.args.at + i in
    let begun = g.M.Memory.bytes c.args.known.now.marks in
    let there = number_there (g.M.Memory.bytes c.loop-index.known.marks) 1 place
    (λ x from to. c.loop-index.invariant.data_there x
    ∙ c.requires.data x (omega (arith, from)) (omega (arith, to, c.loop-index-test.true))) in
    record {
      unknown =
          c.set_bytes.ensures.set (c.set_bytes.ensures.answer ∙ there)
          ∙ one_unknown (g.M.Memory.bytes c.loop-index.known.marks) place
          ∙ ap (λ (marks : ByteMap). with_unknown marks 1 place) c.loop-index.invariant.unknown
          ∙ one_more_unknown begun c.args.at i;
      data_there = λ x. c.set_bytes.ensures.extent x ∙ c.loop-index.invariant.data_there x;
      registers = c.set_bytes.ensures.registers ∙ c.loop-index.invariant.registers;
      shifts = c.set_bytes.ensures.shifts ∙ c.loop-index.invariant.shifts;
    }
