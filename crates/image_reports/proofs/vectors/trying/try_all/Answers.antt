use Rattle.std.proofs.Common.{◌≡◌, ◌+◌, ◌++◌, ℕ, List, [], codes, Option, Some, None, refl, sym, ap, subst, ◌∙◌}
use Rattle.std.proofs.Common.{append_assoc, arith}
use Rattle.std.specs.Fmt.{decimal}
use Rattle.std.specs.Option.{option_map}
use Rattle.std.specs.String.{string_bytes}
use Rattle.std.proofs.lemmas.List.{take_all}
use Rattle.image_reports.specs.vectors.Verdicts.{IsVerdict, Tried, none}
use Rattle.image_reports.specs.vectors.Views.{named}
use Rattle.image_reports.proofs.vectors_lemmas.VerdictLemmas.{passed_more, failed_more}
use Rattle.image_reports.proofs.vectors.trying.try_all.Goals as goal
use Rattle.image_reports.proofs.vectors.trying.try_all.Goals.{in-None, in-Some+in_ok-writeln-in-Some}

pub loop-vector-init : goal.loop-vector-init
loop-vector-init c = record {
  tried = λ program is. subst (λ (text : List ℕ). Tried program c.args.image.now [] 0 0 text)
      (sym c.new-text.ensures.bytes) none;
  counted = refl;
}

pub loop-vector-preserved : goal.loop-vector-preserved
loop-vector-preserved c =
    let image = c.args.image.now in
    let vector = c.vector-item.result in
    elim c.match-branch-2.branch [
      | in-None w ↦ record {
        tried = λ program is.
            let passes : IsVerdict program image (named vector) None =
            subst (λ (o : Option (List ℕ)). IsVerdict program image (named vector) o)
            (ap (option_map string_bytes) w.in-None.is) (c.in_ok-verdict_of.ensures.verdict program is) in
            passed_more program image named c.args.vectors.now c.loop-vector.vector-index vector
            c.loop-vector-test.true c.vector-item.is c.loop-vector.passes c.loop-vector.failures
            c.match-branch-2.passes c.match-branch-2.failures
            (string_bytes c.loop-vector.text) (string_bytes c.match-branch-2.text)
            (c.loop-vector.invariant.tried program is) passes w.passes-is w.failures-is
            (ap string_bytes w.text-is);
        counted = omega (arith, w.passes-is, w.failures-is, c.loop-vector.invariant.counted);
      }
      | in-Some+in_ok-writeln-in-Some w ↦ record {
        tried = λ program is.
            let wrong = string_bytes w.in-Some.wrong in
            let fails : IsVerdict program image (named vector) (Some wrong) =
            subst (λ (o : Option (List ℕ)). IsVerdict program image (named vector) o)
            (ap (option_map string_bytes) w.in-Some.is) (c.in_ok-verdict_of.ensures.verdict program is) in
            let text : string_bytes c.match-branch-2.text ≡ string_bytes c.loop-vector.text ++ (named vector).name
            ++ codes ": " ++ wrong ++ codes "\n" =
            simp append_assoc (ap string_bytes w.text-is ∙ w.in_ok-writeln-in-Some.ensures.bytes) in
            failed_more program image named c.args.vectors.now c.loop-vector.vector-index vector
            c.loop-vector-test.true c.vector-item.is c.loop-vector.passes c.loop-vector.failures
            c.match-branch-2.passes c.match-branch-2.failures
            (string_bytes c.loop-vector.text) (string_bytes c.match-branch-2.text)
            (c.loop-vector.invariant.tried program is) wrong fails w.passes-is w.failures-is text;
        counted = omega (arith, w.passes-is, w.failures-is, c.loop-vector.invariant.counted);
      }
    ]

pub returns-clause-tally : goal.returns-clause-tally
returns-clause-tally c = λ program is.
    let text : string_bytes c.writeln-2.new.self ≡ string_bytes c.loop-vector.text ++ decimal c.loop-vector.passes
    ++ codes " passed, " ++ decimal c.loop-vector.failures ++ codes " failed\n" =
    simp append_assoc c.in_ok-writeln.ensures.bytes in
    record {
      passes = c.loop-vector.passes;
      lines = string_bytes c.loop-vector.text;
      tried = rw (take_all c.loop-vector.vector-index c.args.vectors.now (omega arith)) at
          (c.loop-vector.invariant.tried program is);
      printed = text;
    }
