pub mod PutLaws
pub mod KeptLaws
pub mod FigureLaws
