pub mod ChainLaws
pub mod SecondLaws
pub mod KeyLaws
pub mod WalkLaws
