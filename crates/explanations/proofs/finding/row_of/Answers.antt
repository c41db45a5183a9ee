use Rattle.std.proofs.Common.{ap, ◌∙◌}
use Rattle.std.specs.Option.{option_map}
use Rattle.explanations.proofs.FoundRows.{found_by_code, found_text}
use Rattle.explanations.proofs.NamedRows.{name_found}
use Rattle.explanations.proofs.finding.row_of.Goals as goal

pub returns : goal.returns
returns c = record {
  text = ap (option_map (λ row. row.rule.now)) c.first_of.ensures.first
      ∙ found_text (λ row. row.code.now) (λ row. row.rule.now) c.args.code.now c.args.rows.now;
  asked = c.first_of.ensures.asked;
  named = name_found c.args.code.now c.args.rows.now c.first_of.result c.first_of.ensures.first c.requires;
  known = found_by_code (λ row. row.code.now) c.args.code.now c.args.rows.now c.first_of.result
      c.first_of.ensures.first;
}
