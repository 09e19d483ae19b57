pub mod LocalLaws
pub mod MendForm
pub mod MendLaws
pub mod CallLaws
pub mod Demand3
pub mod Unique
pub mod EitherOrder
pub mod AnyOrder
