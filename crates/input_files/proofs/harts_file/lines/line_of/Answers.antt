use Rattle.std.proofs.Common.{◌≡◌, true, if◌then◌else◌, Ok, map, IfOk, None, subst, sym, ap, ◌∙◌, lit<}
use Rattle.std.specs.Option.{option_map}
use Rattle.std.proofs.lemmas.Iterator.Consumers.{map_from_collect}
use Rattle.std.proofs.lemmas.Iterator.Splits.{YieldsList-from_str_split}
use Rattle.input_files.specs.harts_file.Lines.{fields_of, said_by_fields, said_of, is_joined}
use Rattle.input_files.specs.harts_file.private.Reading.{said_by_line, held}
use Rattle.input_files.proofs.harts_file.lines.line_of.Goals as goal

pub returns : goal.returns
returns c =
    let line = c.args.line.now in
    let joined : is_joined line ≡ true = sym c.is_joined.ensures ∙ c.if-not-is_joined.false in
    let fields : map (λ field. field.now) c.in_ok-fields.fields.items ≡ fields_of line =
    map_from_collect {E = Unit {0}} (Ok c.in_ok-fields.fields) c.in_ok-fields.ensures.ran
    (YieldsList-from_str_split 32 line (lit< tt) c.split.ensures.text c.split.ensures.has_more
    c.split.ensures.pattern) in
    let said : said_of line ≡ said_by_fields (map (λ field. field.now) c.as_slice.result.now) =
    ap (λ b. if b then said_by_fields (fields_of line) else None) joined
    ∙ ap said_by_fields (sym fields ∙ ap (map (λ field. field.now)) (sym c.as_slice.ensures.value)) in
    subst (λ o. IfOk c.said_by_fields.result (λ one. option_map said_by_line one ≡ option_map held o)) (sym said)
    c.said_by_fields.ensures
