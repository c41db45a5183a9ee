use Rattle.std.proofs.Common.{◌≡◌, ◌∙◌, ℕ, List, None, Option, Some, ap, ap₂, rules, sym}
use Rattle.std.specs.Option.{option_and_then, option_map}
use Rattle.image_reports.specs.vectors.Lines.{NamedVector, cut_at, fields_of}
use Rattle.image_reports.proofs.vectors.lines.vector_of.Goals as goal

-- the vector of this name, with what stands before and behind its `=`
abbrev of_sides : List ℕ → Option (List ℕ × List ℕ) → Option NamedVector
of_sides name = option_map (λ sides. record {
  name = name;
  given = fields_of sides.0;
  wanted = fields_of sides.1;
})

-- the vector of what stands before and behind a `:`
abbrev of_parts : Option (List ℕ × List ℕ) → Option NamedVector
of_parts = option_and_then (λ parts. of_sides parts.0 (cut_at 61 parts.1))

pub returns-in_default : goal.returns-in_default
returns-in_default c =
    let none : cut_at 58 c.args.line.now ≡ None = search rules in
    sym (ap of_parts none)

pub returns-in_default-split_once : goal.returns-in_default-split_once
returns-in_default-split_once c =
    let name = c.in-Some.name.now in
    let sides = c.in-Some.sides.now in
    let parts : cut_at 58 c.args.line.now ≡ Some (name, sides) = search rules in
    let none : cut_at 61 sides ≡ None = search rules in
    sym (ap of_parts parts ∙ ap (of_sides name) none)

pub returns : goal.returns
returns c =
    let name = c.in-Some.name.now in
    let sides = c.in-Some.sides.now in
    let parts : cut_at 58 c.args.line.now ≡ Some (name, sides) = search rules in
    let both : cut_at 61 sides ≡ Some (c.in-Some-split_once.given.now, c.in-Some-split_once.wanted.now) =
    search rules in
    ap₂ (λ (given wanted : List (List ℕ)). Some (record { name = name; given = given; wanted = wanted }))
    c.in_ok-fields_of.ensures c.in_ok-fields_of-2.ensures
    ∙ sym (ap of_parts parts ∙ ap (of_sides name) both)
