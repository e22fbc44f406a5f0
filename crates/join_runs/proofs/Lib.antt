pub mod Common
pub mod Sizes
pub mod Texts
pub mod Endings
pub mod Before
pub mod Alike
pub mod Completed
