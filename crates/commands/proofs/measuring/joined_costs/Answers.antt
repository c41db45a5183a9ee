use Rattle.std.proofs.Common.{List, ℕ, refl, sym, subst}
use Rattle.std.specs.String.{string_bytes}
use Rattle.commands.specs.Below.{numbered_of, SaysCosts}
use Rattle.commands.proofs.Counting.{tells_in_calm}
use Rattle.commands.proofs.SourceLemmas.{refused_as_lent}
use Rattle.commands.proofs.measuring.joined_costs.Goals as goal
use Rattle.image_reports.specs.declared.source_places.Library.{Library}

pub returns-in-Ok-clause-said : goal.returns-in-Ok-clause-said
returns-in-Ok-clause-said c =
    let joined = c.args.joined.now in
    let optimisation = c.args.optimisation in
    let profile = c.args.profile in
    let lines = string_bytes c.in-Ok.lines in (
      subst (λ (shown : List ℕ). SaysCosts optimisation profile (string_bytes joined.text)
          (numbered_of joined.libraries.items) shown) (sym c.of_text.ensures.text)
          (subst (λ (ls : List Library). SaysCosts optimisation profile (string_bytes joined.text) (numbered_of ls) lines)
          c.as_slice-read.ensures.value
          (subst (λ (t : List ℕ). SaysCosts optimisation profile t (numbered_of c.as_slice-read.result.now) lines)
          c.as_str-text.ensures.value c.in-Ok.ensures.said)),
      c.of_text.ensures.status,
    )

pub returns-in-Err-clause-refused : goal.returns-in-Err-clause-refused
returns-in-Err-clause-refused c =
    refused_as_lent c.as_str-text.ensures.value c.as_slice-read.ensures.value c.in-Err.ensures.refused
    c.refused_in.ensures

pub returns-in-Err-clause-read : goal.returns-in-Err-clause-read
returns-in-Err-clause-read c files =
    tells_in_calm _ _ _ _ c.refused_in.result c.refused_in.ensures refl
