use Rattle.listing.proofs.LeakLaws.{one_answer, one_listing, one_beginning}
use Rattle.listing.proofs.laws.leaks_agree.Goals as goal

pub returns-clause-answer : goal.returns-clause-answer
returns-clause-answer c = one_answer

pub returns-clause-listing : goal.returns-clause-listing
returns-clause-listing c = one_listing

pub returns-clause-beginning : goal.returns-clause-beginning
returns-clause-beginning c = one_beginning
