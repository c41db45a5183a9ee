use Rattle.std.proofs.Common.{◌≡◌, List, ℕ, map, Bor, Ok, Err, sym, ap, ◌∙◌, rules}
use Rattle.std.specs.String.{string_bytes}
use Rattle.std.proofs.lemmas.Iterator.{YieldsList-from_slice, YieldsList-from_map_by}
use Rattle.std.proofs.lemmas.Iterator.Consumers.{YieldsList-at, map_from_collect}
use Rattle.std.proofs.lemmas.Simd.{map-map}
use Rattle.image_reports.specs.Below.{fault_of_texts, numbers_of}
use Rattle.image_reports.proofs.vectors.given.args_of.Goals as goal

pub returns-in-Ok-clause-read : goal.returns-in-Ok-clause-read
returns-in-Ok-clause-read c =
    let given : map (λ text. text.now) c.in_ok-texts.texts.items ≡ map string_bytes c.args.texts.now =
    map_from_collect {E = Unit {0}} (Ok c.in_ok-texts.texts) c.in_ok-texts.ensures.ran
    (YieldsList-from_map_by _ (λ text. text.now) string_bytes
    (YieldsList-at c.map.ensures.source (YieldsList-from_slice c.args.texts.now c.iter.ensures.rest))
    c.map.ensures.closure (λ x r q k. search rules)) in
    let read = c.in-Ok.ensures in
    record {
      within = read.within;
      numbers =
          read.found ∙ sym (map-map numbers_of (λ (text : Bor (List ℕ)). text.now) c.as_slice.result.now)
          ∙ ap (map numbers_of) (ap (map (λ (text : Bor (List ℕ)). text.now)) c.as_slice.ensures.value ∙ given);
    }

pub returns-in-Err-Argument-clause-read : goal.returns-in-Err-Argument-clause-read
returns-in-Err-Argument-clause-read c =
    let given : map (λ text. text.now) c.in_ok-texts.texts.items ≡ map string_bytes c.args.texts.now =
    map_from_collect {E = Unit {0}} (Ok c.in_ok-texts.texts) c.in_ok-texts.ensures.ran
    (YieldsList-from_map_by _ (λ text. text.now) string_bytes
    (YieldsList-at c.map.ensures.source (YieldsList-from_slice c.args.texts.now c.iter.ensures.rest))
    c.map.ensures.closure (λ x r q k. search rules)) in
    let there = (c.read.ensures.fault c.in-Err-Argument.fault).0 (c.in-Err-Argument.is
    ∙ ap Err c.in-Err-Argument.field-0-is) in
    ap (fault_of_texts c.args.params.now)
    (sym (ap (map (λ (text : Bor (List ℕ)). text.now)) c.as_slice.ensures.value ∙ given)) ∙ there
