use Rattle.hepurita.proofs.AnswerLemmas.{fits, the_outcome, the_same, one_list, public_results}
use Rattle.hepurita.proofs.laws.images_do_what_sources_mean.Goals as goal

pub returns-clause-outcome : goal.returns-clause-outcome
returns-clause-outcome c = λ optimisation profile source bytes program before export image args keeps list after
    answer builds.
    the_outcome (fits c.one_answer_for_a_source.ensures optimisation profile source bytes program before export image
    builds) c.faultless_arguments.ensures.none args keeps list after answer

pub returns-clause-same : goal.returns-clause-same
returns-clause-same c = λ optimisation profile source bytes program before export image one other answer builds agree.
    the_same (fits c.one_answer_for_a_source.ensures optimisation profile source bytes program before export image
    builds) one other agree c.faultless_arguments.ensures.none c.faultless_arguments.ensures.count answer

pub returns-clause-shown : goal.returns-clause-shown
returns-clause-shown c = λ optimisation profile source bytes program before export image one other keeps list after
    after' a b builds agree.
    one_list (fits c.one_answer_for_a_source.ensures optimisation profile source bytes program before export image
    builds) one other agree keeps list after after' a b

pub returns-clause-public : goal.returns-clause-public
returns-clause-public c = λ optimisation profile source bytes program before export image one other keeps list after
    after' a b builds agree.
    public_results (fits c.one_answer_for_a_source.ensures optimisation profile source bytes program before export image
    builds) one other agree keeps list after after' a b
