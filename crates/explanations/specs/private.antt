pub mod Names
pub mod HabitRows
pub mod RowsFound
