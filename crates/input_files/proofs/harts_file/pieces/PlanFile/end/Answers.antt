use Rattle.std.proofs.Common.{◌≡◌, List, ℕ, arith, subst, sym, vec_len}
use Rattle.input_files.specs.harts_file.private.Reading.{IsTaken, TakesLine}
use Rattle.input_files.specs.declared.harts_file.taken_lines.TakenLines.{TakenLines}
use Rattle.input_files.proofs.harts_file_lemmas.TakenLemmas.{last_taken, none_left, nothing_left, some_left}
use Rattle.input_files.proofs.harts_file.pieces.PlanFile.end.Goals as goal
use Rattle.input_files.proofs.harts_file.pieces.PlanFile.end.Goals.{then-not-is_empty+in_ok-take, else-not-is_empty}

pub returns-clause-taken : goal.returns-clause-taken
returns-clause-taken c = λ text read.
    let line = c.args.self.line in
    elim c.if-not-is_empty.branch [
      | then-not-is_empty+in_ok-take w ↦
          subst (λ (taken : TakenLines). IsTaken taken text) (sym w.taken-is)
          (last_taken c.args.self w.take.new.self text read
          (subst (λ (line : List ℕ). TakesLine c.args.self.taken w.take.new.self line) w.as_slice.ensures.value
          w.in_ok-take.ensures.takes)
          (λ e. some_left (vec_len line) c.is_empty.result c.is_empty.ensures w.if-not-is_empty.true
          (omega (arith, line.ok.0, e))))
      | else-not-is_empty w ↦
          subst (λ (taken : TakenLines). IsTaken taken text) (sym w.taken-is) (none_left c.args.self text read
          (omega (
            arith,
            line.ok.0,
            nothing_left (vec_len line) c.is_empty.result c.is_empty.ensures w.if-not-is_empty.false,
          )))
    ]
