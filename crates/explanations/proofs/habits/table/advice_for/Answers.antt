use Rattle.std.proofs.Common.{ap}
use Rattle.std.specs.Option.{option_map}
use Rattle.explanations.specs.habits.Habits.{Habit}
use Rattle.explanations.proofs.habits.table.advice_for.Goals as goal

pub returns-in-Some : goal.returns-in-Some
returns-in-Some c = rw c.in-Some.is at (ap (option_map (λ (habit : Habit). habit.1)) c.habit_at.ensures)

pub returns-in-None : goal.returns-in-None
returns-in-None c = rw c.in-None.is at (ap (option_map (λ (habit : Habit). habit.1)) c.habit_at.ensures)
