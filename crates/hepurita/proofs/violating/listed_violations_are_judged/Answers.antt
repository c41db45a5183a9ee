use Rattle.hepurita.proofs.ListedLemmas.{listed_fine, listed_refused}
use Rattle.hepurita.proofs.violating.listed_violations_are_judged.Goals as goal

pub returns-clause-accepted : goal.returns-clause-accepted
returns-clause-accepted c profile source listed = listed_fine profile source listed

pub returns-clause-refused : goal.returns-clause-refused
returns-clause-refused c profile source refusal first others listed tells =
    listed_refused profile source refusal first others listed tells
