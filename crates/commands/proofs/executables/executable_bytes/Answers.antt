use Rattle.std.proofs.Common.{arith}
use Rattle.commands.specs.Executables.{not_read}
use Rattle.commands.proofs.ExecutableLemmas.{held_short, read_too_much}
use Rattle.commands.proofs.executables.executable_bytes.Goals as goal
use Rattle.language.proofs.Handed.{handed_on}

pub returns-in_err-bytes-clause-refused : goal.returns-in_err-bytes-clause-refused
returns-in_err-bytes-clause-refused g c = λ tells.
    handed_on _ _ c.from_residual.ensures.1 (not_read c.in_err-bytes.ensures.fault)

pub returns-in_err-bytes-clause-counted : goal.returns-in_err-bytes-clause-counted
returns-in_err-bytes-clause-counted g c = handed_on _ _ c.from_residual.ensures.1 c.in_err-bytes.ensures.counted

pub returns-then-len-gt-LONGEST_FILE-clause-refused : goal.returns-then-len-gt-LONGEST_FILE-clause-refused
returns-then-len-gt-LONGEST_FILE-clause-refused g c = λ tells.
    read_too_much _ _ c.in_ok-bytes.bytes.items (c.in_ok-bytes.ensures.begins tells)
    (omega (arith, c.len.ensures, c.if-len-gt-LONGEST_FILE.true))

pub returns-clause-said : goal.returns-clause-said
returns-clause-said g c = λ tells.
    held_short _ _ c.in_ok-bytes.bytes.items (c.in_ok-bytes.ensures.begins tells)
    (omega (arith, c.len.ensures, c.if-len-gt-LONGEST_FILE.false))
