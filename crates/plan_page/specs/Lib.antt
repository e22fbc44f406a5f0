pub mod Escaping
pub mod Cells
pub mod Overview
pub mod Pictures
pub mod Sections
pub mod Chart
pub mod Bars
pub mod Page
