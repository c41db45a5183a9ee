use Rattle.std.proofs.Common.{◌≡◌, ℕ, Ok, Err, map, sym, ap, ◌∙◌, arith}
use Rattle.std.specs.Str.Lines.{lines}
use Rattle.std.proofs.lemmas.Iterator.Consumers.{map_from_collect}
use Rattle.std.proofs.lemmas.Iterator.Splits.{YieldsList-from_lines}
use Rattle.image_reports.specs.vectors.Lines.{vectors_in}
use Rattle.image_reports.specs.declared.vectors.fault.VectorsFault.TheVariants.{Line}
use Rattle.image_reports.proofs.vectors.reading.read.Goals as goal

pub returns-clause-vectors : goal.returns-clause-vectors
returns-clause-vectors c =
    let text = c.args.text.now in
    let all : map (λ line. line.now) c.in_ok-lines.lines.items ≡ lines text =
    map_from_collect {E = Unit {0}} (Ok c.in_ok-lines.lines) c.in_ok-lines.ensures.ran
    (YieldsList-from_lines text c.lines.ensures.rest) in
    let there : map (λ line. line.now) c.as_slice.result.now ≡ lines text =
    ap (map (λ line. line.now)) c.as_slice.ensures.value ∙ all in
    rw (sym there) c.vectors_of.ensures.vectors

pub returns-clause-fault : goal.returns-clause-fault
returns-clause-fault c =
    let text = c.args.text.now in
    let all : map (λ line. line.now) c.in_ok-lines.lines.items ≡ lines text =
    map_from_collect {E = Unit {0}} (Ok c.in_ok-lines.lines) c.in_ok-lines.ensures.ran
    (YieldsList-from_lines text c.lines.ensures.rest) in
    let there : map (λ line. line.now) c.as_slice.result.now ≡ lines text =
    ap (map (λ line. line.now)) c.as_slice.ensures.value ∙ all in
    let faulty : (line : ℕ) → c.vectors_of.result ≡ Err (Line line) → vectors_in text ≡ Err line =
    rw (sym there) c.vectors_of.ensures.fault in
    λ line is. (omega arith, faulty line is)

pub returns-clause-long : goal.returns-clause-long
returns-clause-long c = λ is. absurd (c.vectors_of.ensures.form is)
