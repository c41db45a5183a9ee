use Rattle.std.proofs.Common.{◌≡◌, ◌++◌, ℕ, List}
use Rattle.std.specs.Prelude.{IsTrue}
use Rattle.input_files.specs.harts_file.private.Reading.{HasRead}
use Rattle.input_files.proofs.harts_file.plan.read_lines.Given as goal

-- a text was read, behind which stands what is still to come; no call has failed
abbrev pub invariant-pieces : goal.invariant-pieces
invariant-pieces g l = record {
  begun : (text : List ℕ) × HasRead l.file text
      × (IsTrue g.R.Source.TELLS → g.R.Source.coming l.fn.source ≡ text ++ g.R.Source.coming l.source);
  calm : g.R.Source.failures l.source ≡ g.R.Source.failures l.fn.source;
}
