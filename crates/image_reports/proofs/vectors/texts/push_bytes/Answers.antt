use Rattle.std.proofs.Common.{◌≡◌, ◌%◌, map, Ok, ap, ◌∙◌, rules, arith}
use Rattle.std.proofs.lemmas.Grind.{common_steps}
use Rattle.std.proofs.lemmas.Iterator.{YieldsList-from_slice, YieldsList-from_map, items_from_collect}
use Rattle.std.proofs.lemmas.Iterator.Consumers.{YieldsList-at}
use Rattle.hex.specs.Hex.{encode_lower}
use Rattle.image_reports.proofs.vectors_lemmas.TextLemmas.{bytes_same}
use Rattle.image_reports.proofs.vectors.texts.push_bytes.Goals as goal

pub returns : goal.returns
returns c =
    let numbers = c.args.numbers.now in
    let bytes : c.in_ok-bytes.bytes.items ≡ map (λ number. number % 256) numbers =
    items_from_collect {E = Unit {0}} (Ok c.in_ok-bytes.bytes) c.in_ok-bytes.ensures.ran
    (YieldsList-from_map _ (λ number. number % 256)
    (YieldsList-at c.map.ensures.source (YieldsList-from_slice numbers c.iter.ensures.rest))
    c.map.ensures.closure (λ x r q k. search rules)) in
    let same : c.as_slice.result.now ≡ numbers = c.as_slice.ensures.value ∙ bytes ∙ bytes_same numbers c.requires in
    let digits : c.as_str.result.now ≡ encode_lower numbers = c.as_str.ensures.value ∙ c.in_ok-digits.ensures
    ∙ ap encode_lower same in
    grind (arith, common_steps)
