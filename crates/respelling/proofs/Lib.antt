pub mod RespellLaws
pub mod Unique
