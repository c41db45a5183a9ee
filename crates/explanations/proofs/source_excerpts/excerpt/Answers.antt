-- The text has the number, the line, the margin and what stands below the line, each as its definition says.
use Rattle.std.proofs.Common.{◌≡◌, ◌++◌, List, ℕ, take, drop, ap, ap₂, ◌∙◌}
use Rattle.std.specs.Fmt.{decimal}
use Rattle.std.specs.String.{string_bytes}
use Rattle.explanations.specs.source_excerpts.Excerpt.{most_shown, first_line, last_line, dots, end_of, blanks}
use Rattle.explanations.specs.source_excerpts.Excerpt.{below_text}
use Rattle.explanations.proofs.source_excerpts.excerpt.Goals as goal

pub returns : goal.returns
returns c =
    let source = c.as_bytes-bytes.ensures.value in
    let offset = c.args.place.offset in
    let front_bytes = c.front-front.ensures.bytes ∙ ap (λ bytes. end_of (last_line (take offset bytes))) source in
    let front_dots = c.front-front.ensures.dots ∙ ap (λ bytes. dots (last_line (take offset bytes))) source in
    let back_bytes = c.back-back.ensures.bytes
    ∙ ap (λ bytes. take most_shown (first_line (drop offset bytes))) source in
    let back_dots = c.back-back.ensures.dots ∙ ap (λ bytes. dots (first_line (drop offset bytes))) source in
    let number : string_bytes c.in_ok-number.number ≡ decimal c.args.place.line = c.in_ok-number.ensures.ok in
    let margin : string_bytes c.push_blanks.new.text ≡ blanks (decimal c.args.place.line) =
    c.in_ok-push_blanks.ensures
    ∙ ap₂ (λ (old bytes : List ℕ). old ++ blanks bytes) c.new-margin.ensures.bytes (c.as_bytes.ensures.value
    ∙ number) in
    let line = rw (front_bytes, front_dots, back_bytes, back_dots) at c.in_ok-line.ensures in
    let below = c.in_ok-below.ensures ∙ ap₂ below_text front_dots front_bytes in
    let parts = rw (
      c.as_str.ensures.value,
      c.as_str-2.ensures.value,
      c.as_str-3.ensures.value,
      c.as_str-4.ensures.value,
    ) at c.marked_text.ensures in
    rw (number, line, margin, below) at parts
