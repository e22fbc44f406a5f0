pub mod DayNeeds
