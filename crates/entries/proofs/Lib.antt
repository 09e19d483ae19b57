pub mod ByteLaws
pub mod KindLaws
