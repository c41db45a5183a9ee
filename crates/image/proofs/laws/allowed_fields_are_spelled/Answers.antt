use Rattle.image.proofs.Spellings.{allowed_by_bytes}
use Rattle.image.proofs.laws.allowed_fields_are_spelled.Goals as goal

pub returns : goal.returns
returns c = allowed_by_bytes
