use Rattle.std.proofs.Common.{◌≡◌, ◌+◌, ◌*◌, is_some, sym, ap, ◌∙◌, arith, slice_index_or, length}
use Rattle.hepurita.specs.Below.{byte_count, number_at, with_number}
use Rattle.hepurita.proofs.Below.{is_some-with_number}
use Rattle.hepurita.proofs.ElementLemmas.{ends_within, next_place, number_there, with_numbers-next}
use Rattle.hepurita.proofs.elements.put_numbers.Goals as goal

pub loop-index-preserved : goal.loop-index-preserved
loop-index-preserved g c =
    let i = c.loop-index.index in
    let size = byte_count c.args.size in
    let old = g.M.Memory.bytes c.loop-index.memory in
    let number = slice_index_or c.args.numbers.now i 0 in
    let place = c.args.at + size * i in
    let low = next_place c.args.at size i in
    let ends = ends_within c.args.size i (length c.args.numbers.now) c.args.at
    (c.args.at + size * length c.args.numbers.now) c.loop-index-test.true (omega arith) in
    let there = number_there old size place (λ x from to. c.loop-index.invariant.data_there x
    ∙ c.requires.data x (omega (arith, from)) (omega (arith, to, ends))) in
    let same = ap (λ n. c.args.at + n * i) c.bytes-step.ensures in
    let stored : g.M.Memory.bytes c.store.new.self ≡ with_number old size place number =
    c.store.ensures.stored (c.store.ensures.answer ∙ (ap (λ a. is_some (number_at old size a)) same ∙ there))
    ∙ ap (λ a. with_number old size a number) same in
    record {
      rest = rw (stored, sym low)
          (sym (with_numbers-next old size place c.args.numbers.now i 0 c.loop-index-test.true)
          ∙ c.loop-index.invariant.rest);
      data_there = λ x. rw stored
          (is_some-with_number old size place number x there ∙ c.loop-index.invariant.data_there x);
    }
