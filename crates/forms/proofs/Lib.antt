pub mod CountLaws
pub mod CopyLaws
pub mod RowLaws
pub mod FormLaws
pub mod ReaderLaws
