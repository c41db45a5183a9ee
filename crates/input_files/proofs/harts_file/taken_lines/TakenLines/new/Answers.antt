use Rattle.input_files.proofs.harts_file_lemmas.PlanLemmas.{fine-none}
use Rattle.input_files.proofs.harts_file.taken_lines.TakenLines.new.Goals as goal

pub returns-clause-taken : goal.returns-clause-taken
returns-clause-taken c = (c.new.ensures, fine-none)
