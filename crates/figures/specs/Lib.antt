pub mod Samples
pub mod Figures
pub mod Worked
pub mod Typed
pub mod Days
pub mod Faxes
