use Rattle.std.proofs.Common.{ℕ, List, ◌++◌, take}
use Rattle.input_files.specs.harts_file.private.Reading.{HasRead}
use Rattle.input_files.proofs.harts_file.pieces.PlanFile.take_piece.Given as goal

-- the bytes so far were read
abbrev pub invariant-bytes : goal.invariant-bytes
invariant-bytes l =
    (text : List ℕ) → HasRead l.fn.self text → HasRead l.self (text ++ take l.byte-index l.piece)
