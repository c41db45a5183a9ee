use Rattle.std.proofs.Common.{refl, subst, sym}
use Rattle.commands.specs.FileTexts.{not_utf8_whole, unread_whole}
use Rattle.commands.specs.Harts.{by_text, RefusesHarts}
use Rattle.commands.specs.Unread.{unread}
use Rattle.commands.proofs.HartLemmas.{plan_refused}
use Rattle.commands.proofs.side_by_side.plan_of.Goals as goal
use Rattle.commands.proofs.side_by_side.plan_of.Goals.{in-Read, in-NotUtf8, in-Plan}

pub returns-in_default-clause-refused : goal.returns-in_default-clause-refused
returns-in_default-clause-refused g c = λ tells. by_text (unread_whole (unread refl))

pub returns-after-fault-clause-refused : goal.returns-after-fault-clause-refused
returns-after-fault-clause-refused g c = λ tells.
    let refuses = RefusesHarts (g.F.Files.store c.args.files.now).contents c.args.file.now in
    let held = c.in-Ok.ensures.opens tells in
    let why = c.in-Err.ensures.fault (c.in-Ok.ensures.told tells) in
    elim c.match-fault.branch [
      | in-Read w ↦ subst refuses (sym w.result-is) (by_text (unread_whole (unread refl)))
      | in-NotUtf8 w ↦ subst refuses (sym w.result-is) (by_text (not_utf8_whole held (rw w.in-NotUtf8.is at why) refl))
      | in-Plan w ↦
          subst refuses (sym w.result-is) (plan_refused _ _ _ w.in-Plan.why held (rw w.in-Plan.is at why))
    ]
