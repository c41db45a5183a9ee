use Rattle.std.proofs.Common.{◌≡◌, ◌++◌, ◌∙◌, ℕ, List, [], ap, append-nil, append_assoc, arith, refl, sym, take}
use Rattle.input_files.specs.harts_file.private.Reading.{HasRead}
use Rattle.input_files.proofs.harts_file.plan.read_lines.Goals as goal

pub pieces-init : goal.pieces-init
pieces-init g c = record { begun = ([], c.new-file.ensures, λ tells. refl); calm = refl }

pub returns-in-Ok-eq0-clause-whole : goal.returns-in-Ok-eq0-clause-whole
returns-in-Ok-eq0-clause-whole g c =
    let begun = c.pieces.invariant.begun in (
      begun.0,
      begun.1,
      λ tells. sym (begun.2 tells ∙ ap (λ rest. begun.0 ++ rest) (c.in-Ok-eq0.ensures.end tells (omega arith) c.in-Ok-eq0.field-0-test)
          ∙ append-nil begun.0),
    )

pub pieces-preserved : goal.pieces-preserved
pieces-preserved g c =
    let begun = c.pieces.invariant.begun in
    let piece = take c.in-Ok.count c.get.new.buffer in
    record {
      begun = (
        begun.0 ++ piece,
        c.in_ok-take_piece-in-Ok.ensures.more begun.0 begun.1,
        λ tells. begun.2 tells ∙ ap (λ rest. begun.0 ++ rest) (c.in-Ok.ensures.hands_out tells)
            ∙ sym (append_assoc begun.0 piece (g.R.Source.coming c.get.new.self)),
      );
      calm = c.in-Ok.ensures.calm ∙ c.pieces.invariant.calm;
    }
