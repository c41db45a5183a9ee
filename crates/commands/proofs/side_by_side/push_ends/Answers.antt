-- One end more, where there is a job, and else none.
use Rattle.std.proofs.Common.{◌≡◌, ◌≤◌, ◌++◌, ◌∷◌, [], ℕ, length, map, ◌+◌, ◌<◌, List, get_or, drop, refl, sym, ap}
use Rattle.std.proofs.Common.{◌∙◌, Vec, Global, append_assoc, arith}
use Rattle.std.proofs.lemmas.List.{drop_more, drop_all}
use Rattle.commands.specs.HartsText.{behind, ended_line, ended_text, ends_text}
use Rattle.commands.specs.Below.{Arg, Fields, HartEnd, job_of}
use Rattle.commands.proofs.side_by_side.push_ends.Goals as goal
use Rattle.commands.proofs.side_by_side.push_ends.Goals.{in-Some+in_ok-push_end, in_default}

ends_more : (hart : ℕ) (jobs : List (Fields × List Arg)) (ends : List HartEnd) (job : Fields
    × List Arg) (end : HartEnd) → hart < length jobs → job ≡ get_or jobs hart job → hart < length ends
    → end ≡ get_or ends hart end
    → ends_text hart (map job_of (drop hart jobs)) (drop hart ends)
    ≡ behind hart (ended_line end.stop) ++ behind hart (ended_text job.0 end.outcome)
    ++ ends_text (hart + 1) (map job_of (drop (hart + 1) jobs)) (drop (hart + 1) ends)
ends_more hart jobs ends job end low job_is low' end_is =
    let first : drop hart jobs ≡ job ∷ drop (hart + 1) jobs = drop_more jobs hart job low
    ∙ ap (λ j. j ∷ drop (hart + 1) jobs) (sym job_is) in
    let second : drop hart ends ≡ end ∷ drop (hart + 1) ends = drop_more ends hart end low'
    ∙ ap (λ e. e ∷ drop (hart + 1) ends) (sym end_is) in
    ap (λ js. ends_text hart (map job_of js) (drop hart ends)) first
    ∙ ap (λ es. ends_text hart (map job_of (job ∷ drop (hart + 1) jobs)) es) second

one_more : (text text' before stop outcome rest all : List ℕ) → text' ≡ text ++ stop ++ outcome
    → all ≡ stop ++ outcome ++ rest → text ++ all ≡ before → text' ++ rest ≡ before
one_more text text' before stop outcome rest all put is h =
    let parts : (text ++ stop ++ outcome) ++ rest ≡ text ++ (stop ++ outcome ++ rest) = simp append_assoc in
    ap (λ t. t ++ rest) put ∙ parts ∙ ap (λ more. text ++ more) (sym is) ∙ h

no_job : (hart : ℕ) (ends : List HartEnd) → ends_text hart [] ends ≡ []
no_job hart [] = refl
no_job hart (end ∷ ends) = refl

no_more : (hart : ℕ) (jobs : List (Fields × List Arg)) (ends : List HartEnd) → length jobs ≤ hart
    → ends_text hart (map job_of (drop hart jobs)) (drop hart ends) ≡ []
no_more hart jobs ends h = ap (λ js. ends_text hart (map job_of js) (drop hart ends)) (drop_all hart jobs h)
    ∙ no_job hart (drop hart ends)

pub loop-hart-preserved : goal.loop-hart-preserved
loop-hart-preserved c = elim c.match-get.branch [
  | in-Some+in_ok-push_end w ↦
      one_more c.loop-hart.text.items c.match-get.text.items _ _ _ _ _ (ap (λ (t : Vec ℕ Global). t.items) w.text-is
      ∙ w.in_ok-push_end.ensures)
      (ends_more c.loop-hart.hart c.args.jobs.now c.args.ends.now w.in-Some.field-0.now c.index-ends-hart.result
      w.in-Some.ensures.lookup.3.0 w.in-Some.ensures.lookup.1 c.loop-hart-test.true c.index-ends-hart.is)
      c.loop-hart.invariant
  | in_default w ↦
      let past : length c.args.jobs.now ≤ c.loop-hart.hart = w.in_default.ensures.lookup.3 in
      let past' : length c.args.jobs.now ≤ c.loop-hart.hart + 1 = omega arith in
      ap (λ (t : Vec ℕ Global). t.items
      ++ ends_text (c.loop-hart.hart + 1) (map job_of (drop (c.loop-hart.hart + 1) c.args.jobs.now))
      (drop (c.loop-hart.hart + 1) c.args.ends.now)) w.text-is
      ∙ ap (λ more. c.loop-hart.text.items ++ more)
      (no_more (c.loop-hart.hart + 1) c.args.jobs.now c.args.ends.now past'
      ∙ sym (no_more c.loop-hart.hart c.args.jobs.now c.args.ends.now past)) ∙ c.loop-hart.invariant
]
