-- One setting more.
use Rattle.std.proofs.Common.{arith}
use Rattle.elf_witnesses.specs.Drawn.{other_bytes}
use Rattle.elf_witnesses.specs.Witnessed.{set_bytes, set_size}
use Rattle.elf_witnesses.proofs.Trying.{drawn_all, drawn_more, one_more}
use Rattle.elf_witnesses.proofs.secrets.other_secrets.Goals as goal

pub firsts-preserved : goal.firsts-preserved
firsts-preserved c =
    let first = c.first-item.result in
    let made = c.in_ok-other_setting.field-0 in
    rw c.in_ok-push.ensures.items (record {
      each = one_more set_size set_size c.firsts.settings.items c.args.firsts.now c.firsts.first-index made first
          c.firsts.invariant.each (omega arith) c.first-item.is c.in_ok-other_setting.ensures.alike;
      drawn = drawn_more (other_bytes c.args.attempt) set_bytes c.args.firsts.now c.firsts.first-index first
          c.firsts.settings.items made (omega arith) c.first-item.is c.in_ok-other_setting.ensures.drawn
          c.firsts.invariant.drawn;
    })

pub returns-clause-drawn : goal.returns-clause-drawn
returns-clause-drawn c =
    drawn_all (other_bytes c.args.attempt) set_bytes c.args.firsts.now c.firsts.first-index c.firsts.settings.items
    (omega arith) c.firsts.invariant.drawn
