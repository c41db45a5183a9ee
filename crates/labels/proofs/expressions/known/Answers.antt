use Rattle.std.proofs.Common.{◌≡◌, ◌∙◌, ap, ap₂, Bool, false, if◌then◌else◌, None, Option, refl, Some, sym, true}
use Rattle.std.specs.Bool.{then_some}
use Rattle.std.specs.Option.{option_map}
use Rattle.labels.specs.Below.{declared_at, Place, typed_as, VariableType, where_hidden}
use Rattle.labels.proofs.expressions.known.Goals as goal

where_it_holds : (holds : Bool) (place : Place) → then_some holds place ≡ (if holds then Some place else None)
where_it_holds true place = refl
where_it_holds false place = refl

pub returns-in-Some : goal.returns-in-Some
returns-in-Some c =
    let declared = declared_at c.args.names.now c.args.text.now in
    let place = c.place.ensures ∙ ap (declared_at c.args.names.now) c.as_str.ensures in
    let secret = c.then_some.ensures ∙ ap₂ then_some c.is_hidden.ensures place in
    ap (λ at. Some (typed_as at None c.in-Some.known.value)) (secret ∙ where_it_holds _ declared)
    ∙ ap (λ (v : Option VariableType). option_map (typed_as (where_hidden declared v) None)
    (option_map (λ (w : VariableType). w.value) v)) (sym c.in-Some.is ∙ c.requires)
