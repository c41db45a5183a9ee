-- A schedule, an entry at a time.
use Rattle.std.proofs.Common.{◌≡◌, ◌<◌, [], length, map, refl, sym, ap, ◌∙◌}
use Rattle.std.proofs.lemmas.List.{length-map}
use Rattle.std.proofs.lemmas.List.Elements.{All-get_or}
use Rattle.rv_machine.specs.RunningHarts.{member_now}
use Rattle.rv_machine.specs.System.{done}
use Rattle.rv_machine.proofs.Calls.{kept-nothing}
use Rattle.rv_machine.proofs.SystemLaws.{Followed-more, Followed-short, on_err}
use Rattle.rv_machine.proofs.system.RunningHarts.follow.Goals.{in-Some+in_ok-note, in_default}
use Rattle.rv_machine.proofs.system.RunningHarts.follow.Goals as goal

pub loop-number-init : goal.loop-number-init
loop-number-init g c = record {
  followed = ([], done, sym (kept-nothing g.R.HartRecorder.KEEPS (g.R.HartRecorder.list c.args.recorder.now)));
  calm = refl;
  count = refl;
}

pub step-requires : goal.step-requires
step-requires g c =
    let n = length c.args.self.now.harts.items in
    rw c.loop-number.invariant.count
    (All-get_or (λ number. number < n) c.args.schedule.now c.loop-number.number-index 0 c.loop-number-test.true
    c.requires)

pub returns-in_err-note-clause-cut_short : goal.returns-in_err-note-clause-cut_short
returns-in_err-note-clause-cut_short g c =
    let items = c.args.self.now.harts.items in
    let now = c.step.new.self.harts.items in
    let count : length items ≡ length (map member_now now) = sym c.loop-number.invariant.count
    ∙ sym c.step.ensures.count ∙ sym (length-map now member_now) in
    on_err c.from_residual.result (rw c.in_err-note.ensures.refused
    (Followed-short g.R.HartRecorder.KEEPS c.args.schedule.now c.loop-number.number-index c.loop-number-test.true
    _ _ _ _ _ _ c.loop-number.invariant.followed c.step.ensures.step (length items) count c.requires))

pub loop-number-preserved : goal.loop-number-preserved
loop-number-preserved g c =
    let before = c.loop-number.invariant in
    let keeps = g.R.HartRecorder.KEEPS in
    let schedule = c.args.schedule.now in
    let i = c.loop-number.number-index in
    let list = g.R.HartRecorder.list in
    let refusals = g.R.HartRecorder.refusals in
    let count = c.step.ensures.count ∙ before.count in
    elim c.match-step.branch [
      | in-Some+in_ok-note w ↦ record {
        followed = Followed-more keeps schedule i c.loop-number-test.true _ _ _ _ _ _ before.followed
            w.in-Some.ensures.step _ (ap list w.recorder-is ∙ w.in_ok-note.ensures.taken);
        calm = ap refusals w.recorder-is ∙ w.in_ok-note.ensures.calm ∙ before.calm;
        count = count;
      }
      | in_default w ↦ record {
        followed = Followed-more keeps schedule i c.loop-number-test.true _ _ _ _ _ _ before.followed
            w.in_default.ensures.step _ (ap list w.recorder-is
            ∙ sym (kept-nothing keeps (list c.loop-number.recorder)));
        calm = ap refusals w.recorder-is ∙ before.calm;
        count = count;
      }
    ]
