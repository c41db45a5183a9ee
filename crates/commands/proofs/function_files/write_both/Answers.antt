use Rattle.std.proofs.Common.{ℕ, List, OnErr, subst}
use Rattle.commands.specs.Contents.{IsWritten, IsCutOff}
use Rattle.commands.specs.TwoFiles.{in_first, in_second}
use Rattle.language.proofs.Handed.{handed_on}
use Rattle.commands.proofs.Writing.{err_both}
use Rattle.commands.proofs.function_files.write_both.Goals as goal

pub returns-in_err-write_file-clause-cut_off : goal.returns-in_err-write_file-clause-cut_off
returns-in_err-write_file-clause-cut_off g c = λ tells.
    let before = (g.F.Files.store c.args.files.now).contents in
    let after = (g.F.Files.store c.write_file.new.files).contents in
    let texts = c.args.texts.now in
    handed_on _ _ c.from_residual.ensures.1
    (in_first (subst (λ (bytes : List ℕ). IsCutOff c.args.one.now bytes before after) c.as_bytes.ensures.value
    (c.in_err-write_file.ensures.cut_off tells)) c.in_err-write_file.ensures.fault)

pub returns-clause-cut_off : goal.returns-clause-cut_off
returns-clause-cut_off g c = λ tells.
    let before = (g.F.Files.store c.args.files.now).contents in
    let between = (g.F.Files.store c.write_file.new.files).contents in
    let after = (g.F.Files.store c.write_file-2.new.files).contents in
    let first = subst (λ (bytes : List ℕ). IsWritten c.args.one.now bytes before between) c.as_bytes.ensures.value
    (c.in_ok-write_file.ensures.written tells) in
    err_both _ _ _ c.write_file-2.result
    (subst (λ (bytes : List ℕ). OnErr c.write_file-2.result (IsCutOff c.args.other.now bytes between after))
    c.as_bytes-2.ensures.value (c.write_file-2.ensures.cut_off tells))
    c.write_file-2.ensures.fault (λ fault cut why. in_second first cut why)
