use Rattle.std.proofs.Common.{◌≡◌, ◌<◌, ◌^◌, None, length, refl, sym, ap, ap₂, ◌∙◌, arith}
use Rattle.std.proofs.lemmas.List.Elements.{recursion_from_All}
use Rattle.input_files.specs.Below.{layout_end, slots_end, slots_from}
use Rattle.input_files.specs.wrapping.Wrapped.{broken_rule, end_of, result_behind}
use Rattle.input_files.proofs.wrapping_lemmas.FieldLemmas.{fields_allowed, low_of}
use Rattle.input_files.proofs.wrapping.making.fields_for.Goals as goal

pub overflow_cast-low : goal.overflow_cast-low
overflow_cast-low c =
    let low = c.slots_end-low.ensures ∙ ap (slots_end 0) (c.as_slice.ensures.value ∙ c.in_ok-slots.ensures) in
    let small = low_of c.args.params.now (record { lengths = c.requires.lengths; given = c.requires.given }) in
    omega (arith, low, small)

pub new-requires : goal.new-requires
new-requires c =
    let params = c.args.params.now in
    let low : c.slots_end-low.result ≡ slots_end 0 (slots_from 0 params) = c.slots_end-low.ensures
    ∙ ap (slots_end 0) (c.as_slice.ensures.value ∙ c.in_ok-slots.ensures) in
    let result : c.result_behind-returned.result ≡ result_behind (slots_end 0 (slots_from 0 params)) c.args.returned =
    c.result_behind-returned.ensures ∙ ap (λ n. result_behind n c.args.returned) low in
    let end : c.layout_end.result ≡ end_of params c.args.returned = c.layout_end.ensures
    ∙ ap₂ layout_end low result in
    let none : broken_rule (end_of params c.args.returned) (length c.args.code.now) c.args.asked ≡ None =
    ap (λ n. broken_rule n (length c.args.code.now) c.args.asked) (sym end)
    ∙ (sym c.broken_rule.ensures ∙ c.in_default.is) in
    fields_allowed params c.args.returned c.args.code.now c.args.asked
    (record { lengths = c.requires.lengths; given = c.requires.given }) none
    c.in_ok-slots.slots.items c.result_behind-returned.result c.args.asked.frame_bytes c.in_ok-words.words.items
    c.in_ok-slots.ensures result refl c.in_ok-words.ensures.words
    (recursion_from_All (λ word. word < 2 ^ 32) c.in_ok-words.words.items c.in_ok-words.ensures.fit)
