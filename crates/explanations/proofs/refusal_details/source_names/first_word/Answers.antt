use Rattle.std.proofs.Common.{sym, ap, subst, ◌∙◌}
use Rattle.std.specs.List.{prefix_len}
use Rattle.std.specs.Str.{IsCharBoundary}
use Rattle.explanations.specs.Below.{is_word_byte}
use Rattle.explanations.proofs.refusal_details_lemmas.SourceNames.{ends_at_boundary}
use Rattle.explanations.proofs.refusal_details.source_names.first_word.Goals as goal

pub range-requires-clause-end_boundary : goal.range-requires-clause-end_boundary
range-requires-clause-end_boundary c =
    let length = c.word_length.ensures ∙ ap (prefix_len is_word_byte) c.as_bytes.ensures.value in
    subst (IsCharBoundary c.args.text.now) (sym length) (ends_at_boundary c.args.text.now c.utf8.text)
