use Rattle.hepurita.proofs.AnswerLemmas.{fits}
use Rattle.hepurita.proofs.CutOffLemmas.{right_so_far, same_so_far}
use Rattle.hepurita.proofs.laws.cut_off_runs_are_right.Goals as goal

pub returns-clause-outcome : goal.returns-clause-outcome
returns-clause-outcome c = λ optimisation profile source bytes program before export image args given seen stop
    end builds.
    right_so_far (fits c.one_answer_for_a_source.ensures optimisation profile source bytes program before export image
    builds) args given seen stop end

pub returns-clause-shown : goal.returns-clause-shown
returns-clause-shown c = λ optimisation profile source bytes program before export image one other given seen seen' stop
    stop' end end' builds.
    same_so_far (fits c.one_answer_for_a_source.ensures optimisation profile source bytes program before export image
    builds) one other given seen seen' stop stop' end end'
