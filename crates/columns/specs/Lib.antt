pub mod Sets
pub mod Texts
pub mod Frames
