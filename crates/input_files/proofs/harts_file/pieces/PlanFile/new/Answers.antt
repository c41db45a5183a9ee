use Rattle.std.proofs.Common.{◌≡◌, refl, sym}
use Rattle.std.proofs.lemmas.List.Elements.{All-nil}
use Rattle.input_files.proofs.harts_file_lemmas.TakenLemmas.{begun_anew}
use Rattle.input_files.proofs.harts_file.pieces.PlanFile.new.Goals as goal

pub returns : goal.returns
returns c =
    let taken = c.new.ensures in
    begun_anew c.new.result c.new-2.result taken.taken taken.is_text taken.none c.new-2.ensures.items
