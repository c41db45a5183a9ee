-- The members of an object.
use Rattle.serde_json.specs.Data.{Members}
use Rattle.serde_json.specs.View.{members_view}
use Rattle.json_lines.specs.declared.object.JsonObject.{JsonObject}

abbrev pub members_in : JsonObject → Members
members_in o = members_view o.members.entries
