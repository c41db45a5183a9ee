-- A hart that has stopped is given more steps, and stays what it is.
use Rattle.std.proofs.Common.{◌≡◌, ℕ, zero, suc, ◌+◌, List, [], Some, refl, subst, arith}
use Rattle.harts.specs.Below.{ByteMap, HartMakes, Member, none, Observation, one_more, rests, Stop}

resting : (more : ℕ) {bytes : ByteMap} {m : Member} {stop : Stop} → m.stop ≡ Some stop → HartMakes more bytes m
    [] bytes m
resting zero is = none
resting (suc more) is = one_more (rests is) (resting more is) refl

pub rests_on : {k : ℕ} {own bytes : ByteMap} {m after : Member} {seen : List Observation} {stop : Stop} (more : ℕ)
    → after.stop ≡ Some stop → HartMakes k own m seen bytes after → HartMakes (k + more) own m seen bytes after
rests_on more is (none {bytes = bytes} {m = m}) =
    let e : more ≡ 0 + more = omega arith in
    subst (λ n. HartMakes n bytes m [] bytes m) e (resting more is)
rests_on {own = own} {bytes = bytes} {m = m} {after = after} {seen = seen} more is (one_more {n = n} step
    then shown) =
    let e : suc (n + more) ≡ suc n + more = omega arith in
    subst (λ k. HartMakes k own m seen bytes after) e (one_more step (rests_on more is then) shown)
