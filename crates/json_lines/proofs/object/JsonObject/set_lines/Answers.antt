use Rattle.std.proofs.Common.{◌≡◌, List, ℕ, Ok, OnOk, map, ap, ◌∙◌, subst}
use Rattle.std.specs.Str.Lines.{lines}
use Rattle.std.specs.Str.Lossy.{utf8_lossy}
use Rattle.std.proofs.lemmas.Iterator.Consumers.{map_from_collect}
use Rattle.std.proofs.lemmas.Iterator.Splits.{YieldsList-from_lines}
use Rattle.serde_json.specs.Data.{put}
use Rattle.json_lines.specs.Lines.{texts_data}
use Rattle.json_lines.specs.Objects.{members_in}
use Rattle.json_lines.proofs.object.JsonObject.set_lines.Goals as goal

pub returns : goal.returns
returns c =
    let text = c.deref.result.now in
    let all : map (λ line. line.now) c.in_ok-lines.lines.items ≡ lines text =
    map_from_collect {E = Unit {0}} (Ok c.in_ok-lines.lines) c.in_ok-lines.ensures.ran
    (YieldsList-from_lines text c.lines.ensures.rest) in
    let there : map (λ line. line.now) c.as_slice.result.now ≡ lines (utf8_lossy c.args.text.now) =
    ap (map (λ line. line.now)) c.as_slice.ensures.value ∙ all
    ∙ ap lines (c.deref.ensures ∙ c.in_ok-text.ensures.lossy) in
    subst (λ (texts : List (List ℕ)). OnOk c.set_texts.result (members_in c.set_texts.new.self
    ≡ put c.args.name.now (texts_data texts) (members_in c.args.self.now))) there c.set_texts.ensures
