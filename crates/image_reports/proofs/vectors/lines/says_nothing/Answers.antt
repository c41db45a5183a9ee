use Rattle.std.proofs.Common.{◌≡◌, false, ◌||◌, ◌==◌, nat_eq, codes, sym, ap, ◌∙◌, rules, tests}
use Rattle.std.specs.List.{list_all, starts_with}
use Rattle.std.proofs.lemmas.Iterator.{YieldsList-from_slice}
use Rattle.std.proofs.lemmas.Iterator.Search.{all_from_yields_List}
use Rattle.std.proofs.lemmas.Str.Pattern.{starts_text}
use Rattle.image_reports.proofs.vectors.lines.says_nothing.Goals as goal

pub returns-else-starts_with : goal.returns-else-starts_with
returns-else-starts_with c =
    let line = c.args.line.now in
    let other : starts_with nat_eq line (codes "#") ≡ false =
    sym (starts_text c.starts_with.result (codes "#") line c.starts_with.ensures.cases)
    ∙ c.if-starts_with.false in
    let blank : c.all.result ≡ list_all (λ byte. byte == 32) line =
    all_from_yields_List (λ byte. byte == 32) _ _ _ c.all.ensures.ran
    (YieldsList-from_slice line (c.iter.ensures.rest ∙ c.as_bytes.ensures.value))
    (λ x b q k. search (rules, tests)) in
    blank ∙ ap (λ b. b || list_all (λ byte. byte == 32) line) (sym other)
