-- The libraries before this one were read, and no file changed.
use Rattle.std.proofs.Common.{◌≡◌, ◌≤◌, length, map, take, IsTrue}
use Rattle.std.specs.String.{string_bytes}
use Rattle.commands.specs.Below.{numbered_of, source_limit}
use Rattle.commands.proofs.SourceLemmas.{AreRead}
use Rattle.commands.proofs.sources.joined_text.Given as goal

abbrev pub invariant-loop-path : goal.invariant-loop-path
invariant-loop-path g l = record {
  within : length (string_bytes l.text) ≤ source_limit;
  same : g.F.Files.store l.files ≡ g.F.Files.store l.fn.files;
  read : IsTrue g.F.Files.TELLS
      → AreRead (g.F.Files.store l.fn.files).contents (map (λ path. path.now) (take l.path-index l.libraries))
      (string_bytes l.text) (numbered_of l.read.items);
}
