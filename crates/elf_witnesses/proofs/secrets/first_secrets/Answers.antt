-- One secret more.
use Rattle.std.proofs.Common.{arith}
use Rattle.elf_witnesses.specs.Drawn.{first_bytes, size_in}
use Rattle.elf_witnesses.specs.Witnessed.{secret_size, set_size}
use Rattle.elf_witnesses.proofs.Trying.{drawn_all, drawn_more, one_more}
use Rattle.elf_witnesses.proofs.secrets.first_secrets.Goals as goal

pub secrets-preserved : goal.secrets-preserved
secrets-preserved c =
    let program = c.args.program.now in
    let secret = c.secret-item.result in
    let made = c.in_ok-first_setting.field-0 in
    rw c.in_ok-push.ensures.items (record {
      each = one_more set_size (secret_size program) c.secrets.settings.items c.args.secrets.now
          c.secrets.secret-index made secret c.secrets.invariant.each (omega arith) c.secret-item.is
          c.in_ok-first_setting.ensures.alike;
      drawn = drawn_more (first_bytes c.args.attempt) (size_in program) c.args.secrets.now c.secrets.secret-index
          secret c.secrets.settings.items made (omega arith) c.secret-item.is c.in_ok-first_setting.ensures.drawn
          c.secrets.invariant.drawn;
    })

pub returns-clause-drawn : goal.returns-clause-drawn
returns-clause-drawn c =
    drawn_all (first_bytes c.args.attempt) (size_in c.args.program.now) c.args.secrets.now c.secrets.secret-index
    c.secrets.settings.items (omega arith) c.secrets.invariant.drawn
