-- The word that stands there is an instruction's.
use Rattle.std.proofs.Common.{refl, sym, ap, ◌∙◌, Some}
use Rattle.rv_machine.specs.Decoded.{spelled}
use Rattle.rv_programs.specs.Code.{no_word, word}
use Rattle.rv_programs.proofs.program.fetch_word.Goals as goal

pub returns-in-Some-Instruction : goal.returns-in-Some-Instruction
returns-in-Some-Instruction c = record {
  stands = rw c.word.ensures (word (record {
    aligned = c.if-pc-ne0.false;
    word = sym c.in-Some-Instruction.ensures.word
        ∙ ap (λ w. Some (spelled w)) c.in-Some-Instruction.field-0-is;
    in_range = rw c.in-Some-Instruction.field-0-is at c.in-Some-Instruction.ensures.decoded;
  }));
  alignment = rw c.word.ensures refl;
  profile = rw c.word.ensures c.profile.ensures;
}

pub returns-in-None : goal.returns-in-None
returns-in-None c = (c.if-pc-ne0.false, no_word (sym c.in-None.ensures.word))
