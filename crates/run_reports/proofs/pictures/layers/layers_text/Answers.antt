use Rattle.std.proofs.Common.{◌∙◌, ◌+◌, ◌++◌, List, ℕ, ap, append_assoc, drop, get_or, sym}
use Rattle.std.specs.String.{string_bytes}
use Rattle.std.proofs.lemmas.List.{drop_more}
use Rattle.run_reports.specs.declared.pictures.layers.Layer.{Layer}
use Rattle.run_reports.specs.declared.pictures.layers.Layer.TheVariants.{Fetched}
use Rattle.run_reports.specs.pictures.Page.{layer_text, layers_text}
use Rattle.run_reports.proofs.pictures.layers.layers_text.Goals as goal

pub loop-layer-preserved : goal.loop-layer-preserved
unfolding layers_text
loop-layer-preserved c =
    let cells = c.args.cells.now in
    let said = layers_text cells in
    let layers = c.args.layers.now in
    let i = c.loop-layer.layer-index in
    let before = string_bytes c.loop-layer.text in
    let left = drop (i + 1) layers in
    ap (λ (text : List ℕ). text ++ said left) c.in_ok-push_layer.ensures
    ∙ append_assoc before (layer_text cells (get_or layers i Fetched)) (said left)
    ∙ sym (ap (λ (some : List Layer). before ++ said some) (drop_more layers i Fetched c.loop-layer-test.true))
    ∙ c.loop-layer.invariant
