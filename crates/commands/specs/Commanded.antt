-- What comes of the words of a command line: the request that they ask for is done or fails; or they ask for none, and
-- it is said why.
use Rattle.std.specs.Prelude.{◌≡◌, ℕ, List}
use Rattle.commands.specs.Contents.{Store}
use Rattle.commands.specs.Leaks.{IsOutputFault}
use Rattle.commands.specs.Requests.{Reports}
use Rattle.commands.specs.Unread.{IsOutOfMemory}
use Rattle.command_line.specs.Words.{IsAskedBy, WritesNoneItReads}
use Rattle.command_line.specs.declared.words.Request.{Request}
use Rattle.command_line.specs.declared.options.Format.{Format}
use Rattle.commands.specs.declared.fault.Fault.{Fault}
use Rattle.commands.specs.json.Performed.{PerformsAs}
use Rattle.commands.specs.Below.{Collected, IsPut, IsPutInPart, IsPutWhole}

-- what is said where words ask for no request, with which exit status: help or the version on standard output, or that
-- this failed; on standard error what is wrong with the words, or that memory was refused
pub data Says (out out' err err' : Collected) : ℕ → Type 0 where
  helped : (text : List ℕ) → IsPutWhole text out out' → err' ≡ err → Says out out' err err' 0
  unprinted : (text : List ℕ) {fault : Fault} {status : ℕ} → IsPutInPart text out out' → IsOutputFault fault
      → Reports fault err err' status → Says out out' err err' status
  wrong : (text : List ℕ) → out' ≡ out → IsPut text err err' → Says out out' err err' 2
  unsaid : {fault : Fault} {status : ℕ} → out' ≡ out → IsOutOfMemory fault → Reports fault err err' status
      → Says out out' err err' status

-- what comes of words, with which exit status: no request is done that would write a file that it reads
pub data Commands (words : List (List ℕ)) (before after : Store) (out out' err err' : Collected) : ℕ → Type 0 where
  performed : (request : Request) (format : Format) {status : ℕ} → IsAskedBy words request
      → WritesNoneItReads request → PerformsAs format request before after out out' err err' status
      → Commands words before after out out' err err' status
  said : {status : ℕ} → after ≡ before → Says out out' err err' status
      → Commands words before after out out' err err' status
