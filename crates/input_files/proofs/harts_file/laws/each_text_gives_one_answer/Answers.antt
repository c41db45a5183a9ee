use Rattle.input_files.proofs.harts_file_lemmas.AnswerLemmas.{each_has_one, one_plan, one_fault, not_both}
use Rattle.input_files.proofs.harts_file.laws.each_text_gives_one_answer.Goals as goal

pub returns-clause-some : goal.returns-clause-some
returns-clause-some c = each_has_one

pub returns-clause-one_plan : goal.returns-clause-one_plan
returns-clause-one_plan c = one_plan

pub returns-clause-one_fault : goal.returns-clause-one_fault
returns-clause-one_fault c = one_fault

pub returns-clause-not_both : goal.returns-clause-not_both
returns-clause-not_both c = not_both
