use Rattle.std.proofs.Common.{◌≡◌, ◌≤◌, ℕ, List, length, inr, arith, ap, sym, subst, ◌∙◌}
use Rattle.std.proofs.lemmas.Bool.{false≢true}
use Rattle.std.specs.Str.{IsUtf8}
use Rattle.input_files.specs.Below.{source_limit}
use Rattle.input_files.proofs.stream_build_lemmas.Readings.{all-of-fewer, no-fewer}
use Rattle.input_files.proofs.stream_build.reading.text_of.Goals as goal

pub returns-then-len-gt-SOURCE_LIMIT-clause-fault : goal.returns-then-len-gt-SOURCE_LIMIT-clause-fault
returns-then-len-gt-SOURCE_LIMIT-clause-fault c =
    λ all is.
    inr (
      no-fewer c.args.bytes.items all 262145 source_limit is (omega arith),
      c.at-too_long.ensures.rule,
      c.at-too_long.ensures.place,
      c.at-too_long.ensures.why,
    )

pub returns-in-Ok-clause-whole : goal.returns-in-Ok-clause-whole
returns-in-Ok-clause-whole c =
    λ all is. ap (λ v. v.items) c.in-Ok.ensures.ok ∙ all-of-fewer c.args.bytes.items all 262145 is (omega arith)

pub returns-clause-fault : goal.returns-clause-fault
returns-clause-fault c =
    λ all is.
    let whole : c.args.bytes.items ≡ all = all-of-fewer c.args.bytes.items all 262145 is (omega arith) in (
      subst (λ (l : List ℕ). length l ≤ source_limit) whole (omega arith),
      λ utf8. false≢true (c.in-Err.ensures.succeeds (subst IsUtf8 (sym whole) utf8)),
    )
