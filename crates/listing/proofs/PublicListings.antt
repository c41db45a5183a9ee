-- The listings of two runs that show the same and have stopped are one list of bytes.
use Rattle.std.proofs.Common.{◌≡◌, ℕ, ◌<◌, List, sym, ap, ◌∙◌, ⊎_elim, arith}
use Rattle.listing.specs.Below.{Arg, Budget, Ecall, Fields, frame_base, Observation, ProgramTree, results_in, State}
use Rattle.listing.specs.Below.{Stop}
use Rattle.hepurita.specs.Compiled.{Means}
use Rattle.hepurita.specs.CutOff.{IsRightSoFar}
use Rattle.listing.specs.Listings.{listing}

-- with as many steps as the image states it has stopped
has_stopped : (program : ProgramTree) (image : Fields) (args : List Arg) (stop : Stop) (end : State)
    → IsRightSoFar program image args image.max_steps stop end → stop ≡ Ecall
has_stopped program image args stop end right =
    ⊎_elim
    (λ (ended : (stop ≡ Ecall) × Means program args (results_in frame_base image end.bytes)). ended.0)
    (λ (going : (stop ≡ Budget) × (image.max_steps < image.max_steps)). let fewer = going.1 in
    absurd (omega (arith, fewer)))
    right

pub same_bytes : (program : ProgramTree) (image : Fields) (one other : List Arg) (seen seen' : List Observation)
    (stop stop' : Stop) (end end' : State) (listed listed' : List ℕ)
    → IsRightSoFar program image one image.max_steps stop end
    → IsRightSoFar program image other image.max_steps stop' end' → seen ≡ seen' → listed ≡ listing seen stop
    → listed' ≡ listing seen' stop' → (listed ≡ listed') × (stop ≡ Ecall) × (stop' ≡ Ecall)
same_bytes program image one other seen seen' stop stop' end end' listed listed' right right' same is is' =
    let at = has_stopped program image one stop end right in
    let at' = has_stopped program image other stop' end' right' in
    (is ∙ ap (λ xs. listing xs stop) same ∙ ap (λ how. listing seen' how) (at ∙ sym at') ∙ sym is', at, at')
