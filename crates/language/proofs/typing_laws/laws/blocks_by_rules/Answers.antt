use Rattle.language.proofs.typing_laws_lemmas.Programs.{blocks}
use Rattle.language.proofs.typing_laws.laws.blocks_by_rules.Goals as goal

pub returns : goal.returns
returns c = blocks
