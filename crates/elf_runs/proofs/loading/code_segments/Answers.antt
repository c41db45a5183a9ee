use Rattle.std.proofs.Common.{◌∙◌, ap}
use Rattle.elf_runs.proofs.Segments.{lies_in_none, nothing_more, segment_more}
use Rattle.elf_runs.specs.Loading.{addresses_of}
use Rattle.elf_runs.specs.Code.{placed}
use Rattle.elf_runs.proofs.loading.code_segments.Goals as goal
use Rattle.elf_runs.proofs.loading.code_segments.Goals.{in-Some+in_ok-push, in_default}

pub each-preserved : goal.each-preserved
each-preserved c = λ alignment a.
    let codes = c.args.codes.now in
    let code = c.code-item.result in
    elim c.match-branch-2.branch [
      | in-Some+in_ok-push w ↦
          let of = rw w.in-Some.is at c.in_ok-segment.ensures in
          segment_more alignment c.args.profile codes c.each.code-index code a c.each-test.true c.code-item.is
          c.each.segments.items c.match-branch-2.segments.items w.in-Some.segment _ of.0 of.1
          (ap (λ v. v.items) w.segments-is ∙ w.in_ok-push.ensures.items) (c.each.invariant alignment a)
      | in_default w ↦
          let none = rw w.in_default.is at c.in_ok-segment.ensures in
          rw w.segments-is
          (nothing_more alignment c.args.profile codes c.each.code-index code a c.each-test.true c.code-item.is
          c.each.segments.items _ (lies_in_none a (addresses_of (placed code)) none) (c.each.invariant alignment a))
    ]
