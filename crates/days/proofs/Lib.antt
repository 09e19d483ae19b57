pub mod DayColumns
