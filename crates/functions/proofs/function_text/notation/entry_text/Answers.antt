use Rattle.std.proofs.Common.{sym}
use Rattle.functions.proofs.function_text_lemmas.SharedTexts.{entered_behind}
use Rattle.functions.proofs.function_text.notation.entry_text.Goals as goal

pub returns-then-room-eq0 : goal.returns-then-room-eq0
returns-then-room-eq0 c = rw c.if-room-eq0.true (sym entered_behind)
