-- A step of the hart with a number.
use Rattle.std.proofs.Common.{◌≡◌, ◌<◌, map, length, Some, refl}
use Rattle.std.specs.Prelude.{slice_get}
use Rattle.std.proofs.lemmas.Option.{slice_get-map, slice_get_read}
use Rattle.rv_machine.specs.RunningHarts.{member_now}
use Rattle.rv_machine.proofs.SystemLaws.{map-with_member, Follows-one}
use Rattle.rv_machine.proofs.system.RunningHarts.step.Goals as goal

pub returns-clause-step : goal.returns-clause-step
returns-clause-step g c =
    let items = c.args.self.now.harts.items in
    let k = c.args.number in
    let got = c.index_mut-hart.result.now in
    let within : c.from.result < length items = rw c.from.ensures c.requires in
    let here = slice_get_read items (length items) c.from.result got refl within c.index_mut-hart.ensures.value in
    let found = rw c.from.ensures at here in
    let there : slice_get (map member_now items) k ≡ Some (member_now got) =
    rw (slice_get-map member_now items k, found) in
    rw (c.from.ensures, map-with_member member_now items k c.step.new.self) (Follows-one there c.step.ensures)
