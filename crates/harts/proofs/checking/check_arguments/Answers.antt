-- The first hart whose arguments have a fault.
use Rattle.std.proofs.Common.{All, sym, subst, ◌∙◌}
use Rattle.harts.specs.Frames.{job_of, IsRunnable}
use Rattle.harts.specs.Refused.{HasNoFault, of_argument}
use Rattle.harts.proofs.Numbering.{job_got, all_more, all_taken}
use Rattle.harts.proofs.checking.check_arguments.Goals as goal

pub returns-in-Some-clause-refused : goal.returns-in-Some-clause-refused
returns-in-Some-clause-refused c = of_argument (record {
  job = job_of c.index-jobs-hart.result;
  there = job_got job_of c.args.jobs.now c.loop-hart.hart c.index-jobs-hart.result c.loop-hart-test.true
      c.index-jobs-hart.is;
  faulty = sym c.argument_fault.ensures.fault ∙ c.in-Some.is;
  before = c.loop-hart.invariant.faultless;
})

pub loop-hart-preserved : goal.loop-hart-preserved
loop-hart-preserved c =
    let one = c.index-jobs-hart.result in
    let i = c.loop-hart.hart in
    record {
      faultless = all_more job_of c.args.jobs.now i one c.loop-hart-test.true c.index-jobs-hart.is HasNoFault
          c.loop-hart.invariant.faultless (sym c.argument_fault.ensures.fault ∙ c.in_default.is);
      within = all_more job_of c.args.jobs.now i one c.loop-hart-test.true c.index-jobs-hart.is IsRunnable
          c.loop-hart.invariant.within (c.argument_fault.ensures.within c.in_default.is);
    }

pub returns-clause-faultless : goal.returns-clause-faultless
returns-clause-faultless c =
    subst (All HasNoFault) (all_taken job_of c.args.jobs.now c.loop-hart.hart c.loop-hart-test.false)
    c.loop-hart.invariant.faultless

pub returns-clause-within : goal.returns-clause-within
returns-clause-within c =
    subst (All IsRunnable) (all_taken job_of c.args.jobs.now c.loop-hart.hart c.loop-hart-test.false)
    c.loop-hart.invariant.within
