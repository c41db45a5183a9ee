use Rattle.language.proofs.typing_laws_lemmas.Programs.{programs}
use Rattle.language.proofs.typing_laws.laws.programs_by_rules.Goals as goal

pub returns : goal.returns
returns c = programs
