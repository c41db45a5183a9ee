use Rattle.serde_json.specs.View.{view}
use Rattle.json_lines.proofs.ObjectLemmas.{still_without_float}
use Rattle.json_lines.proofs.object.JsonObject.set.Goals as goal

pub invariant_of-self : goal.invariant_of-self
invariant_of-self c = record {
  exact =
      still_without_float c.args.self.now.members.entries c.put.new.map.entries c.args.name.now (view c.args.value)
      c.put.result c.put.ensures.ok c.put.ensures.err c.requires c.args.self.now.exact;
}
