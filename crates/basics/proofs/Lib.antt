pub mod RefusalLaws
pub mod CallLaws
pub mod FieldLaws
pub mod RuleLaws
pub mod WriteLaws
pub mod StandLaws
