use Rattle.std.proofs.Common.{◌≡◌, false, not, ◌&&◌, ◌==◌, length, sym, ap, ◌∙◌, lit<, rules, tests}
use Rattle.std.specs.List.{list_all, list_any}
use Rattle.std.proofs.lemmas.Iterator.Splits.{YieldsList-from_str_split}
use Rattle.std.proofs.lemmas.Iterator.Search.{all_from_yields_List}
use Rattle.input_files.specs.harts_file.Lines.{fields_of}
use Rattle.input_files.proofs.harts_file.lines.is_joined.Goals as goal

pub returns-then-not-contains : goal.returns-then-not-contains
returns-then-not-contains c =
    let line = c.args.line.now in
    let none : list_any (λ byte. byte == 13) line ≡ false =
    ap (list_any (λ byte. byte == 13)) (sym c.as_bytes.ensures.value) ∙ sym c.contains.ensures.value
    ∙ c.if-not-contains.true in
    let all : c.all.result ≡ list_all (λ field. not (length field == 0)) (fields_of line) =
    all_from_yields_List (λ field. not (length field == 0)) _ _ _ c.all.ensures.ran
    (YieldsList-from_str_split 32 line (lit< tt) c.split.ensures.text c.split.ensures.has_more
    c.split.ensures.pattern) (λ x b q k. search (rules, tests)) in
    all ∙ ap (λ b. not b && list_all (λ field. not (length field == 0)) (fields_of line)) (sym none)
