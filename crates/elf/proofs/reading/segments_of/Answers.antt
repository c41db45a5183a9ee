use Rattle.std.proofs.Common.{◌+◌, ◌-◌, ◌*◌, ◌++◌, ◌∙◌, ap, sym}
use Rattle.std.proofs.lemmas.List.{append-nil}
use Rattle.elf.specs.Checks.{first_broken}
use Rattle.elf.specs.Segments.{checks_from, program_headers_from, segments_in}
use Rattle.elf.proofs.Loading.{first_checks, first_segments, header_held, header_told, one_more}
use Rattle.elf.proofs.Walks.{no_header, one_header}
use Rattle.elf.proofs.reading.segments_of.Goals as goal

pub headers-init : goal.headers-init
headers-init c =
    let count = c.program_header_count-count in
    let start = c.program_headers_place-start in
    let none = c.new-segments.ensures.items in
    record {
      checks =
          first_checks c.args.bytes.now count.result start.result c.new-segments.result.items count.ensures
          start.ensures none;
      loaded =
          first_segments c.args.bytes.now count.result start.result c.new-segments.result.items count.ensures
          start.ensures none;
      taken = rw none (λ i. 0);
    }

pub headers-preserved : goal.headers-preserved
headers-preserved c =
    let file = c.args.bytes.now in
    let n = c.program_header_count-count.result in
    let start = c.program_headers_place-start.result in
    let k = c.headers.k in
    let header = c.at-header.result in
    let items = c.headers.segments.items in
    let rest = program_headers_from (n - (k + 1)) (start + 32 * (k + 1)) file in
    let step = one_header n k start file header c.headers-test.true (rw c.from.ensures at c.at-header.ensures.header) in
    record {
      checks =
          c.headers.invariant.checks
          ∙ ap (λ headers. first_broken (checks_from file items headers)) step
          ∙ header_held file items header rest c.in_ok-taken.ensures.passed
          ∙ ap (λ segments. first_broken (checks_from file segments rest)) (sym c.in_ok-taken.ensures.segments);
      loaded =
          c.headers.invariant.loaded
          ∙ ap (λ headers. items ++ segments_in file headers) step
          ∙ one_more file header rest items
          ∙ ap (λ segments. segments ++ segments_in file rest) (sym c.in_ok-taken.ensures.segments);
      taken = c.in_ok-taken.ensures.taken;
    }

pub returns-in_err-taken-clause-fault : goal.returns-in_err-taken-clause-fault
returns-in_err-taken-clause-fault c =
    let file = c.args.bytes.now in
    let n = c.program_header_count-count.result in
    let start = c.program_headers_place-start.result in
    let k = c.headers.k in
    let header = c.at-header.result in
    let items = c.headers.segments.items in
    let rest = program_headers_from (n - (k + 1)) (start + 32 * (k + 1)) file in
    let step = one_header n k start file header c.headers-test.true (rw c.from.ensures at c.at-header.ensures.header) in
    header_told c.from_residual.result c.in_err-taken.field-0.0 file items header rest c.from_residual.ensures.1
    c.in_err-taken.ensures.fault
    (c.headers.invariant.checks ∙ ap (λ headers. first_broken (checks_from file items headers)) step)

pub returns : goal.returns
returns c =
    let file = c.args.bytes.now in
    let n = c.program_header_count-count.result in
    let start = c.program_headers_place-start.result in
    let items = c.headers.segments.items in
    let none = no_header n c.headers.k start file c.headers-test.false in
    record {
      passed =
          c.headers.invariant.checks ∙ ap (λ headers. first_broken (checks_from file items headers)) none;
      segments =
          sym
          (c.headers.invariant.loaded
          ∙ ap (λ headers. items ++ segments_in file headers) none
          ∙ append-nil items);
      fault = tt;
    }
