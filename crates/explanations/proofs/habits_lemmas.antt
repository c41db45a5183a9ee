pub mod HabitLemmas
