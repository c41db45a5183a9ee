use Rattle.std.proofs.Common.{drop, take}
use Rattle.explanations.specs.habits.Habits.{fits, habits}
use Rattle.explanations.specs.habits.Spots.{spot_of}
use Rattle.explanations.specs.private.HabitRows.{shown}
use Rattle.explanations.proofs.habits_lemmas.HabitLemmas.{found_in_both, found_shown}
use Rattle.explanations.proofs.habits.table.habit_at.Goals as goal

pub returns : goal.returns
unfolding habits
returns c =
    let test = fits (spot_of c.args.spot.now) in
    let one = found_shown shown test _ _ _ c.statements.ensures c.first_fitting.ensures in
    let other = found_shown shown test _ _ _ c.types.ensures c.first_fitting-2.ensures in
    let third = found_shown shown test _ _ _ c.declarations.ensures c.first_fitting-3.ensures in
    let rest = found_shown shown test _ _ _ c.expressions.ensures c.first_fitting-4.ensures in
    let two = found_in_both shown test _ _ _ (take 15 habits) (take 15 (drop 15 habits)) one other c.or.ensures in
    let three = found_in_both shown test _ _ _ (take 30 habits) (take 11 (drop 30 habits)) two third c.or-2.ensures in
    found_in_both shown test _ _ _ (take 41 habits) (drop 41 habits) three rest c.or-3.ensures
