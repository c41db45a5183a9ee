use Rattle.listing.specs.Below.{RunsFor}
use Rattle.listing.proofs.PublicListings.{same_bytes}
use Rattle.listing.proofs.laws.listings_show_what_is_public.Goals as goal

pub returns : goal.returns
returns c = λ optimisation profile text bytes program before export image one other stop stop' listed listed' builds
    agree leak leak'.
    let run : RunsFor image.max_steps image one leak.0 stop leak.1.0 = leak.1.1 in
    let run' : RunsFor image.max_steps image other leak'.0 stop' leak'.1.0 = leak'.1.1 in
    let right = c.cut_off_runs_are_right.ensures.outcome optimisation profile text bytes program before export image
    one image.max_steps leak.0 stop leak.1.0 builds agree.one_within run in
    let right' = c.cut_off_runs_are_right.ensures.outcome optimisation profile text bytes program before export image
    other image.max_steps leak'.0 stop' leak'.1.0 builds agree.other_within run' in
    let same = c.cut_off_runs_are_right.ensures.shown optimisation profile text bytes program before export image one
    other image.max_steps leak.0 leak'.0 stop stop' leak.1.0 leak'.1.0 builds agree run run' in
    same_bytes program image one other leak.0 leak'.0 stop stop' leak.1.0 leak'.1.0 listed listed' right right' same
    leak.2 leak'.2
