use Rattle.image.proofs.Spellings.{one_by_fields}
use Rattle.image.proofs.laws.one_spelling.Goals as goal

pub returns : goal.returns
returns c = one_by_fields
