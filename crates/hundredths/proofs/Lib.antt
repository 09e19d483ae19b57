pub mod StepLaws
pub mod ExtremeLaws
