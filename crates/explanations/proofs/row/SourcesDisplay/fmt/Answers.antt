use Rattle.std.proofs.Common.{◌≡◌, length, false, nat_eq, [], ◌++◌, if◌then◌else◌, sym, ◌∙◌, subst}
use Rattle.std.specs.Prelude.{codes}
use Rattle.std.specs.Fmt.{HasWritten}
use Rattle.explanations.proofs.row.SourcesDisplay.fmt.Goals as goal

-- there are sources, so they are printed
pub returns-clause-writes : goal.returns-clause-writes
returns-clause-writes g c plain ok =
    let violates = c.args.self.now.violates.now in
    let corrected = c.args.self.now.corrected.now in
    let some : nat_eq (length violates) 0 ≡ false = sym c.is_empty.ensures ∙ c.if-is_empty.false in
    subst
    (λ empty. HasWritten {W = g.row.W.Denot} g.W.Write.write_str_gives c.args.f.now
    (if empty then [] else codes "\n\nRefused:\n\n" ++ (violates ++ (codes "\n\nAccepted:\n\n" ++ corrected)))
    c.write.new.self)
    (sym some)
    (c.write.ensures.writes plain ok)
