use Rattle.input_files.proofs.wrapping_lemmas.WrapLaws.{one_wrapped, one_rule, not_both}
use Rattle.input_files.proofs.wrapping.laws.wraps_agree.Goals as goal

pub returns-clause-bytes : goal.returns-clause-bytes
returns-clause-bytes c = one_wrapped c.one_answer_for_a_source.ensures

pub returns-clause-rules : goal.returns-clause-rules
returns-clause-rules c = one_rule c.one_answer_for_a_source.ensures

pub returns-clause-apart : goal.returns-clause-apart
returns-clause-apart c = not_both c.one_answer_for_a_source.ensures
