use Rattle.commands.proofs.JoinedLines.{byte_placed, line_placed}
use Rattle.commands.proofs.sources.lines_are_placed.Goals as goal

pub returns-clause-line : goal.returns-clause-line
returns-clause-line c = line_placed

pub returns-clause-byte : goal.returns-clause-byte
returns-clause-byte c = byte_placed
